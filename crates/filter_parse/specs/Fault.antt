-- The texts that are expressions, and the fault of every other text (docs/EXPRESSIONS.md, "Faults and their places").
use Rattle.std.specs.Prelude.{◌≡◌, ◌<◌, ◌≤◌, ◌-◌, ◌%◌, ◌^◌, ◌==◌, ◌++◌, ◌&&◌, ◌∷◌, List, None, Option, Some, [], if◌then◌else◌, length, nat_le, nat_lt, pred, reverse, suc, ℕ}
use Rattle.filter_tree.specs.declared.arithmetic.Operator.TheVariants.{Divide, Subtract}
use Rattle.filter_tree.specs.Measure.{depth_of}
use Rattle.filter_tree.specs.Tree.{Tree}
use Rattle.filter_parse.specs.declared.TheConstants.{MAX_DEPTH}
use Rattle.filter_parse.specs.declared.fault.ParseFault.{ParseFault}
use Rattle.filter_parse.specs.declared.fault.ParseFault.TheVariants.{BadAddress, BadPrefix, NumberTooBig, Syntax, TooDeep}
use Rattle.filter_parse.specs.declared.token.Token.{Token}
use Rattle.filter_parse.specs.declared.token.Token.TheVariants.{Address, Close, CloseIndex, Net, Number, Open, OpenIndex, Operates, Port, PortRange, Proto}
use Rattle.filter_parse.specs.Grammar.{IsViable, Spells}
use Rattle.filter_parse.specs.Token.{AreTokens, Placed, kinds}

-- The tokens before a place are named the last first.

-- the greatest number that may come after them
abbrev pub limit_after : List Token → ℕ
limit_after (Port ∷ before) = 65535
limit_after (PortRange ∷ before) = 65535
limit_after (Operates Subtract ∷ Number n ∷ PortRange ∷ before) = 65535
limit_after (Proto ∷ before) = 255
limit_after before = 4294967295

-- the address whose prefix bits come after them
abbrev pub network_after : List Token → Option ℕ
network_after (Operates Divide ∷ Address a ∷ Net ∷ before) = Some a
network_after before = None

-- the number of open brackets after one more token
abbrev pub open_after : Token → ℕ → ℕ
open_after Open n = suc n
open_after OpenIndex n = suc n
open_after Close n = pred n
open_after CloseIndex n = pred n
open_after _ n = n

-- the number of brackets that are open after them
abbrev pub open_brackets : List Token → ℕ
open_brackets [] = 0
open_brackets (token ∷ before) = open_after token (open_brackets before)

-- a number of prefix bits above 32, or past which a bit of the address is set
abbrev pub prefix_fault : Option ℕ → ℕ → ℕ → Option ParseFault
prefix_fault None n at = None
prefix_fault (Some a) n at = if nat_le n 32 && a % 2 ^ (32 - n) == 0 then None else Some (BadPrefix at)

-- a bracket that opens while this many are open
abbrev pub bracket_fault : ℕ → ℕ → Option ParseFault
bracket_fault count at = if nat_lt count MAX_DEPTH then None else Some (TooDeep at)

-- the fault of a token at a place by its own value, if an expression may go on with it
abbrev pub own_fault : List Token → Token → ℕ → Option ParseFault
own_fault before (Number n) at = if nat_le n (limit_after before) then prefix_fault (network_after before) n at else Some (NumberTooBig at)
own_fault before (Address a) at = if nat_le a 4294967295 then None else Some (BadAddress at)
own_fault before Open at = bracket_fault (open_brackets before) at
own_fault before OpenIndex at = bracket_fault (open_brackets before) at
own_fault before _ at = None

-- no token has a fault of its own
abbrev pub IsFaultless : List Token → List Placed → Type 0
IsFaultless before [] = Unit {0}
IsFaultless before (placed ∷ more) =
    (own_fault before placed.token placed.place ≡ None) × IsFaultless (placed.token ∷ before) more

-- these tokens are an expression, and this is its tree
pub record IsTreeOf (tokens : List Placed) (tree : Tree) : Type 0 where
  pub spelt : Spells (kinds tokens) tree
  pub faultless : IsFaultless [] tokens
  pub shallow : depth_of tree ≤ MAX_DEPTH

-- A text with these tokens has this fault. The first place in the text counts; if both faults are possible at one place, the
-- syntax error counts.
pub data IsFaultOf (text : List ℕ) (tokens : List Placed) : ParseFault → Type 0 where
  -- no expression goes on with the next token
  unexpected : (front more : List Placed) (next : Placed) → tokens ≡ front ++ next ∷ more →
      IsFaultless [] front → IsViable (kinds front) → ¬ IsViable (kinds front ++ next.token ∷ []) → IsFaultOf text tokens (Syntax next.place)
  -- one does, but the token has a fault of its own
  faulty : {fault : ParseFault} (front more : List Placed) (next : Placed) → tokens ≡ front ++ next ∷ more →
      IsFaultless [] front → IsViable (kinds front ++ next.token ∷ []) → own_fault (reverse (kinds front)) next.token next.place ≡ Some fault →
      IsFaultOf text tokens fault
  -- the tokens begin an expression, but are not one
  unfinished : IsFaultless [] tokens → IsViable (kinds tokens) → ((tree : Tree) → ¬ Spells (kinds tokens) tree) →
      IsFaultOf text tokens (Syntax (length text))
  -- the tree is too deep
  deep : {tree : Tree} → IsFaultless [] tokens → Spells (kinds tokens) tree → MAX_DEPTH < depth_of tree →
      IsFaultOf text tokens (TooDeep (length text))

-- the text is an expression, and this is its tree
abbrev pub HasTree : List ℕ → Tree → Type 0
HasTree text tree = (tokens : List Placed) × AreTokens 0 text tokens × IsTreeOf tokens tree

-- the text is not an expression, and this is its fault
-- The reason: docs/INTERNALS.md, "A fault is a relation".
abbrev pub HasFault : List ℕ → ParseFault → Type 0
HasFault text fault = (tokens : List Placed) × AreTokens 0 text tokens × IsFaultOf text tokens fault
