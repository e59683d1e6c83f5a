-- Expression trees without an allocator, which the parser reads, the printer writes and the compiler compiles.
use Rattle.std.specs.Prelude.{◌<◌, ◌^◌, ℕ}
use Rattle.filter_tree.specs.declared.arithmetic.Operator.{Operator}
use Rattle.filter_tree.specs.declared.arithmetic.Protocol.{Protocol}
use Rattle.filter_tree.specs.declared.arithmetic.Size.{Size}
use Rattle.filter_tree.specs.declared.expression.Relation.{Relation}
use Rattle.filter_tree.specs.declared.primitive.Primitive.{Primitive}
use Rattle.filter_tree.specs.declared.primitive.Primitive.TheVariants.{AtLeast, AtMost, Host, Ip, Net, Port, PortRange, Proto}
use Rattle.filter_tree.specs.Prefix.{IsPrefix}

pub data ArithTree : Type 0 where
  number : ℕ → ArithTree
  packet_length : ArithTree
  accessor : Protocol → ArithTree → Size → ArithTree
  operation : ArithTree → Operator → ArithTree → ArithTree

pub data Tree : Type 0 where
  primitive : Primitive → Tree
  relation : ArithTree → Relation → ArithTree → Tree
  negation : Tree → Tree
  conjunction : Tree → Tree → Tree
  disjunction : Tree → Tree → Tree

-- the numbers of a primitive have the widths of the packet's fields, and its prefix has no bit past its length
abbrev pub IsPrimitiveInRange : Primitive → Type 0
IsPrimitiveInRange Ip = Unit {0}
IsPrimitiveInRange (Proto n) = n < 2 ^ 8
IsPrimitiveInRange (Host direction address) = address < 2 ^ 32
IsPrimitiveInRange (Net direction prefix) = (prefix.address < 2 ^ 32) × IsPrefix prefix
IsPrimitiveInRange (Port transport direction n) = n < 2 ^ 16
IsPrimitiveInRange (PortRange transport direction n m) = (n < 2 ^ 16) × (m < 2 ^ 16)
IsPrimitiveInRange (AtMost n) = n < 2 ^ 32
IsPrimitiveInRange (AtLeast n) = n < 2 ^ 32

-- every number of a tree has its width
abbrev pub IsArithInRange : ArithTree → Type 0
IsArithInRange (number n) = n < 2 ^ 32
IsArithInRange packet_length = Unit {0}
IsArithInRange (accessor protocol index size) = IsArithInRange index
IsArithInRange (operation left operator right) = IsArithInRange left × IsArithInRange right

abbrev pub IsInRange : Tree → Type 0
IsInRange (primitive p) = IsPrimitiveInRange p
IsInRange (relation left relator right) = IsArithInRange left × IsArithInRange right
IsInRange (negation tree) = IsInRange tree
IsInRange (conjunction left right) = IsInRange left × IsInRange right
IsInRange (disjunction left right) = IsInRange left × IsInRange right
