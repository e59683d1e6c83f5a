-- The grammar of expressions (pcap-filter(7); docs/EXPRESSIONS.md, "Grammar"), as relations between tokens and trees. In each
-- relation the tokens up to `rest` spell the tree, and `rest` follows them.
use Rattle.std.specs.Prelude.{◌++◌, ◌∷◌, ◌≤◌, List, [], suc, ℕ}
use Rattle.filter_tree.specs.declared.arithmetic.Operator.{Operator}
use Rattle.filter_tree.specs.declared.arithmetic.Operator.TheVariants.{Add, And as BitAnd, Divide, ExclusiveOr, Modulo, Multiply, Or as BitOr, ShiftLeft, ShiftRight, Subtract}
use Rattle.filter_tree.specs.declared.arithmetic.Protocol.{Protocol}
use Rattle.filter_tree.specs.declared.arithmetic.Protocol.TheVariants.{Icmp, Ip as IpName, Tcp as TcpName, Udp as UdpName}
use Rattle.filter_tree.specs.declared.arithmetic.Size.{Size}
use Rattle.filter_tree.specs.declared.arithmetic.Size.TheVariants.{Four, One, Two}
use Rattle.filter_tree.specs.declared.expression.Relation.{Relation}
use Rattle.filter_tree.specs.declared.primitive.Direction.{Direction}
use Rattle.filter_tree.specs.declared.primitive.Direction.TheVariants.{Both, Destination as ToDestination, Either, Source as FromSource}
use Rattle.filter_tree.specs.declared.primitive.Primitive.{Primitive}
use Rattle.filter_tree.specs.declared.primitive.Primitive.TheVariants.{AtLeast, AtMost, Host as IsHost, Ip, Net as IsNet, Port as IsPort, PortRange as IsPortRange, Proto as IsProto}
use Rattle.filter_tree.specs.declared.primitive.Transport.{Transport}
use Rattle.filter_tree.specs.declared.primitive.Transport.TheVariants.{Tcp, Udp, Unnamed}
use Rattle.filter_tree.specs.Tree.{ArithTree, Tree, accessor, conjunction, disjunction, negation, number, operation, packet_length, primitive, relation}
use Rattle.filter_parse.specs.declared.token.Connective.{Connective}
use Rattle.filter_parse.specs.declared.token.Connective.TheVariants.{And, AndSign, Or, OrSign}
use Rattle.filter_parse.specs.declared.token.Token.{Token}
use Rattle.filter_parse.specs.declared.token.Token.TheVariants.{Address, Close, CloseIndex, Colon, Compares, Connects, Destination, Greater, Host, Length, Less, Named, Net, Not, Number, Open, OpenIndex, Operates, Port, PortRange, Proto, Source}

-- how tightly an operator binds; all associate to the left
abbrev pub precedence_of : Operator → ℕ
precedence_of BitOr = 0
precedence_of ExclusiveOr = 1
precedence_of BitAnd = 2
precedence_of ShiftLeft = 3
precedence_of ShiftRight = 3
precedence_of Add = 4
precedence_of Subtract = 4
precedence_of Multiply = 5
precedence_of Divide = 5
precedence_of Modulo = 5

-- the tree of `and`, `&&`, `or` and `||` over two trees
abbrev pub joined : Connective → Tree → Tree → Tree
joined And left right = conjunction left right
joined AndSign left right = conjunction left right
joined Or left right = disjunction left right
joined OrSign left right = disjunction left right

-- the meaning of a protocol's name alone: `tcp`, `udp` and `icmp` are `ip proto` 6, 17 and 1
abbrev pub named : Protocol → Primitive
named IpName = Ip
named TcpName = IsProto 6
named UdpName = IsProto 17
named Icmp = IsProto 1

-- ["tcp" | "udp"]
pub data SpellsTransport : List Token → List Token → Transport → Type 0 where
  unnamed : {rest : List Token} → SpellsTransport rest rest Unnamed
  tcp : {rest : List Token} → SpellsTransport (Named TcpName ∷ rest) rest Tcp
  udp : {rest : List Token} → SpellsTransport (Named UdpName ∷ rest) rest Udp

-- [dir]
pub data SpellsDirection : List Token → List Token → Direction → Type 0 where
  undirected : {rest : List Token} → SpellsDirection rest rest Either
  source : {rest : List Token} → SpellsDirection (Source ∷ rest) rest FromSource
  destination : {rest : List Token} → SpellsDirection (Destination ∷ rest) rest ToDestination
  source_or_destination : {rest : List Token} → SpellsDirection (Source ∷ Connects Or ∷ Destination ∷ rest) rest Either
  source_and_destination : {rest : List Token} → SpellsDirection (Source ∷ Connects And ∷ Destination ∷ rest) rest Both

-- the size after `:`
pub data SpellsSize : Token → Size → Type 0 where
  one : SpellsSize (Number 1) One
  two : SpellsSize (Number 2) Two
  four : SpellsSize (Number 4) Four

-- a primitive without arithmetic
pub data SpellsPrimitive : List Token → List Token → Primitive → Type 0 where
  protocol : {rest : List Token} {p : Protocol} → SpellsPrimitive (Named p ∷ rest) rest (named p)
  proto : {rest : List Token} {n : ℕ} → SpellsPrimitive (Named IpName ∷ Proto ∷ Number n ∷ rest) rest (IsProto n)
  host : {from rest : List Token} {direction : Direction} {a : ℕ} →
      SpellsDirection from (Host ∷ Address a ∷ rest) direction → SpellsPrimitive from rest (IsHost direction a)
  net : {from rest : List Token} {direction : Direction} {a n : ℕ} →
      SpellsDirection from (Net ∷ Address a ∷ Operates Divide ∷ Number n ∷ rest) direction →
      SpellsPrimitive from rest (IsNet direction (record { address = a; bits = n }))
  port : {from mid rest : List Token} {transport : Transport} {direction : Direction} {n : ℕ} →
      SpellsTransport from mid transport → SpellsDirection mid (Port ∷ Number n ∷ rest) direction →
      SpellsPrimitive from rest (IsPort transport direction n)
  portrange : {from mid rest : List Token} {transport : Transport} {direction : Direction} {n m : ℕ} →
      SpellsTransport from mid transport →
      SpellsDirection mid (PortRange ∷ Number n ∷ Operates Subtract ∷ Number m ∷ rest) direction →
      SpellsPrimitive from rest (IsPortRange transport direction n m)
  less : {rest : List Token} {n : ℕ} → SpellsPrimitive (Less ∷ Number n ∷ rest) rest (AtMost n)
  greater : {rest : List Token} {n : ℕ} → SpellsPrimitive (Greater ∷ Number n ∷ rest) rest (AtLeast n)

-- an arithmetic expression whose operators outside brackets bind at least as tightly as a precedence says
mutual
  pub data SpellsArith : ℕ → List Token → List Token → ArithTree → Type 0 where
    operand : {precedence : ℕ} {from rest : List Token} {a : ArithTree} → SpellsOperand from rest a → SpellsArith precedence from rest a
    combined : {precedence : ℕ} {from mid rest : List Token} {a b : ArithTree} (operator : Operator) → precedence ≤ precedence_of operator →
        SpellsArith (precedence_of operator) from (Operates operator ∷ mid) a →
        SpellsArith (suc (precedence_of operator)) mid rest b →
        SpellsArith precedence from rest (operation a operator b)

  pub data SpellsOperand : List Token → List Token → ArithTree → Type 0 where
    literal : {rest : List Token} {n : ℕ} → SpellsOperand (Number n ∷ rest) rest (number n)
    len : {rest : List Token} → SpellsOperand (Length ∷ rest) rest packet_length
    bracketed : {mid rest : List Token} {a : ArithTree} → SpellsArith 0 mid (Close ∷ rest) a → SpellsOperand (Open ∷ mid) rest a
    byte_at : {mid rest : List Token} {p : Protocol} {index : ArithTree} → SpellsArith 0 mid (CloseIndex ∷ rest) index →
        SpellsOperand (Named p ∷ OpenIndex ∷ mid) rest (accessor p index One)
    bytes_at : {mid rest : List Token} {p : Protocol} {index : ArithTree} {size : Size} (n : Token) → SpellsSize n size →
        SpellsArith 0 mid (Colon ∷ n ∷ CloseIndex ∷ rest) index →
        SpellsOperand (Named p ∷ OpenIndex ∷ mid) rest (accessor p index size)

-- an expression; `and` and `or` bind alike and associate to the left
mutual
  pub data SpellsExpr : List Token → List Token → Tree → Type 0 where
    unary : {from rest : List Token} {e : Tree} → SpellsUnary from rest e → SpellsExpr from rest e
    junction : {from mid rest : List Token} {a b : Tree} (word : Connective) → SpellsExpr from (Connects word ∷ mid) a →
        SpellsUnary mid rest b → SpellsExpr from rest (joined word a b)

  pub data SpellsUnary : List Token → List Token → Tree → Type 0 where
    negated : {mid rest : List Token} {e : Tree} → SpellsUnary mid rest e → SpellsUnary (Not ∷ mid) rest (negation e)
    enclosed : {mid rest : List Token} {e : Tree} → SpellsExpr mid (Close ∷ rest) e → SpellsUnary (Open ∷ mid) rest e
    simple : {from rest : List Token} {p : Primitive} → SpellsPrimitive from rest p → SpellsUnary from rest (primitive p)
    related : {from mid rest : List Token} {a b : ArithTree} (relator : Relation) →
        SpellsArith 0 from (Compares relator ∷ mid) a → SpellsArith 0 mid rest b →
        SpellsUnary from rest (relation a relator b)

-- the tokens are those of a complete expression, and this is its tree
abbrev pub Spells : List Token → Tree → Type 0
Spells tokens tree = SpellsExpr tokens [] tree

-- some text of the grammar begins with these tokens
abbrev pub IsViable : List Token → Type 0
IsViable front = (more : List Token) × (tree : Tree) × Spells (front ++ more) tree
