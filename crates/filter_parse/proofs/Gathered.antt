-- What the parser has put out of a tree, and what the tokens left make of it.
use Rattle.std.proofs.Common.{◌≡◌, ◌++◌, ◌∷◌, Bool, List, None, Option, Some, [], cond, false, option_and_then, refl, true}
use Rattle.filter_tree.specs.Tree.{ArithTree, Tree, accessor, conjunction, disjunction, negation, number, operation, packet_length, primitive, relation}
use Rattle.filter_parse.specs.declared.item.Item.{Item}
use Rattle.filter_parse.specs.declared.item.Item.TheVariants.{Access, Conjoin, Disjoin, Length as PushLength, Negate, Number as PushNumber, Operate, Primitive as PushPrimitive, Relate}
use Rattle.filter_parse.specs.declared.token.Token.{Token}
use Rattle.filter_parse.specs.body.Parser.{Parsing, accepted, reduced, shifted}

-- a tree's parts behind other parts, each behind its own
abbrev pub with_arith : ArithTree → List Item → List Item
with_arith (number n) output = output ++ PushNumber n ∷ []
with_arith packet_length output = output ++ PushLength ∷ []
with_arith (accessor protocol index size) output = with_arith index output ++ Access protocol size ∷ []
with_arith (operation left operator right) output = with_arith right (with_arith left output) ++ Operate operator ∷ []

-- the same of an expression
abbrev pub with_tree : Tree → List Item → List Item
with_tree (primitive p) output = output ++ PushPrimitive p ∷ []
with_tree (relation left relator right) output = with_arith right (with_arith left output) ++ Relate relator ∷ []
with_tree (negation tree) output = with_tree tree output ++ Negate ∷ []
with_tree (conjunction left right) output = with_tree right (with_tree left output) ++ Conjoin ∷ []
with_tree (disjunction left right) output = with_tree right (with_tree left output) ++ Disjoin ∷ []

-- the parts of the expression that the tokens left make whole
abbrev pub run : List Token → Parsing → Option (List Item)
run [] parser = accepted (reduced None parser)
run (token ∷ rest) parser = option_and_then (run rest) (shifted token (reduced (Some token) parser))

-- what holds of the parser, where a step leads to one
abbrev pub IfAny : (Parsing → Type 0) → Option Parsing → Type 0
IfAny P None = Unit {0}
IfAny P (Some parser) = P parser

-- a shift that is made only where a test fails
pub unless : (P : Parsing → Type 0) (test : Bool) (found : Option Parsing) → (test ≡ false → IfAny P found) → IfAny P (cond test None found)
unless P true found p = tt
unless P false found p = p refl

-- a step that answers what it is given
pub and_then-same : {A : Type 0} (step : A → Option A) → ((x : A) → step x ≡ Some x) → (found : Option A) → option_and_then step found ≡ found
and_then-same step same None = refl
and_then-same step same (Some x) = same x

-- a step that is two steps
pub and_then-twice : {A B C : Type 0} (both : A → Option C) (first : A → Option B) (second : B → Option C) →
    ((x : A) → both x ≡ option_and_then second (first x)) →
    (found : Option A) → option_and_then both found ≡ option_and_then second (option_and_then first found)
and_then-twice both first second same None = refl
and_then-twice both first second same (Some x) = same x
