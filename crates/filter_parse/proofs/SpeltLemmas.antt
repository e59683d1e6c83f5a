-- What the parser reads the grammar spells: its state, stack and output tell what is spelt so far.
use Rattle.std.proofs.Common.{◌≡◌, ◌<◌, ◌≤◌, ◌∙◌, ◌∷◌, ◌++◌, ◌&&◌, Bool, List, None, Option, Some, [], ap, arith, cond, false, nat_eq, nat_le, option_and_then, refl, subst, suc, sym, true, ℕ}
use Rattle.std.proofs.lemmas.Bool.{eqb-true, leb-true, leb-false}
use Rattle.filter_tree.specs.declared.arithmetic.Operator.{Operator}
use Rattle.filter_tree.specs.declared.arithmetic.Operator.TheVariants.{Add, And as BitAnd, Divide, ExclusiveOr, Modulo, Multiply, Or as BitOr, ShiftLeft, ShiftRight, Subtract}
use Rattle.filter_tree.specs.declared.arithmetic.Protocol.{Protocol}
use Rattle.filter_tree.specs.declared.arithmetic.Protocol.TheVariants.{Ip as IpName, Tcp as TcpName, Udp as UdpName}
use Rattle.filter_tree.specs.declared.arithmetic.Size.{Size}
use Rattle.filter_tree.specs.declared.arithmetic.Size.TheVariants.{Four, One, Two}
use Rattle.filter_tree.specs.declared.primitive.Direction.{Direction}
use Rattle.filter_tree.specs.declared.primitive.Direction.TheVariants.{Either, Source as FromSource}
use Rattle.filter_tree.specs.declared.primitive.Primitive.{Primitive}
use Rattle.filter_tree.specs.declared.primitive.Transport.{Transport}
use Rattle.filter_tree.specs.declared.primitive.Transport.TheVariants.{Tcp, Udp, Unnamed}
use Rattle.filter_tree.specs.Tree.{ArithTree, Tree, accessor, negation, number, operation, packet_length, primitive, relation}
use Rattle.filter_parse.specs.declared.item.Item.{Item}
use Rattle.filter_parse.specs.declared.item.Item.TheVariants.{Access, Negate, Operate, Primitive as PushPrimitive, Relate}
use Rattle.filter_parse.specs.declared.state.State.{State}
use Rattle.filter_parse.specs.declared.state.State.TheVariants.{Directed, Expects, Named as HasNamed, Number as HasNumber, Truth as HasTruth, WantsAddress, WantsBits, WantsDash, WantsEnd, WantsFirst, WantsLast, WantsLeast, WantsMost, WantsNetwork, WantsPort, WantsProtocol, WantsSize, WantsSlash, Widened}
use Rattle.filter_parse.specs.declared.state.Pending.{Pending}
use Rattle.filter_parse.specs.declared.state.Pending.TheVariants.{Bracket, Compared, Index, Joined, Negated, Operated}
use Rattle.filter_parse.specs.declared.token.Connective.TheVariants.{And, Or}
use Rattle.filter_parse.specs.declared.token.Token.{Token}
use Rattle.filter_parse.specs.declared.token.Token.TheVariants.{Address, Close, CloseIndex, Colon, Compares, Connects, Destination, Greater, Host, Length, Less, Named, Net, Not, Number, Open, OpenIndex, Operates, Port, PortRange, Proto, Source}
use Rattle.filter_parse.specs.Grammar.{Spells, SpellsArith, SpellsDirection, SpellsExpr, SpellsPrimitive, SpellsSize, SpellsTransport, SpellsUnary, bracketed, byte_at, bytes_at, combined, destination, enclosed, four, greater, host, joined, junction, len, less, literal, named, negated, net, one, operand, port, portrange, precedence_of, proto, protocol, related, simple, source, source_and_destination, source_or_destination, tcp, two, udp, unary, undirected, unnamed}
use Rattle.filter_parse.specs.body.Parser.{Parsing, accepted, after_name, after_number, after_protocol, after_source, after_truth, begins, begins_direction, begins_truth, ends, in_direction, in_primitive, is_numeric, junction_of, lookahead_precedence, negation_of, parsing, reduced, reduced_connectives, reduced_name, reduced_operators, reduced_relation, shifted, size_of_number, sized_by}
use Rattle.filter_parse.proofs.Gathered.{IfAny, run, unless, with_arith, with_tree}
use Rattle.filter_parse.proofs.RunLemmas.{with_tree-joined}

-- an operator that waits on top binds less tightly than a precedence says
abbrev pub TopBelow : ℕ → List Pending → Type 0
TopBelow precedence (Operated operator ∷ stack) = precedence_of operator < precedence
TopBelow precedence _ = Unit {0}

-- what stands open was spelt from the beginning of the tokens to a place, where what it waits for begins
abbrev pub Waits : List Token → List Pending → List Token → List Item → Type 0
Waits whole [] at output = (at ≡ whole) × (output ≡ [])
Waits whole (Joined word ∷ stack) at output =
    (from : List Token) × (a : Tree) × (before : List Item) × SpellsExpr from (Connects word ∷ at) a × (output ≡ with_tree a before) × Waits whole stack from before
Waits whole (Negated ∷ stack) at output = Waits whole stack (Not ∷ at) output
Waits whole (Bracket numeric ∷ stack) at output = Waits whole stack (Open ∷ at) output
Waits whole (Compared relator ∷ stack) at output =
    (from : List Token) × (a : ArithTree) × (before : List Item) × SpellsArith 0 from (Compares relator ∷ at) a × (output ≡ with_arith a before) × Waits whole stack from before
Waits whole (Operated operator ∷ stack) at output =
    (from : List Token) × (a : ArithTree) × (before : List Item) × SpellsArith (precedence_of operator) from (Operates operator ∷ at) a × (output ≡ with_arith a before) × Waits whole stack from before × TopBelow (precedence_of operator) stack
Waits whole (Index p ∷ stack) at output = Waits whole stack (Named p ∷ OpenIndex ∷ at) output

-- an expression has been spelt up to a place
abbrev pub IsTruthAt : List Token → List Pending → List Item → List Token → Type 0
IsTruthAt whole stack output rest =
    (from : List Token) × (e : Tree) × (before : List Item) × SpellsExpr from rest e × (output ≡ with_tree e before) × Waits whole stack from before

-- an arithmetic expression of a precedence has
abbrev pub IsNumberAt : ℕ → List Token → List Pending → List Item → List Token → Type 0
IsNumberAt precedence whole stack output rest =
    (from : List Token) × (a : ArithTree) × (before : List Item) × SpellsArith precedence from rest a × (output ≡ with_arith a before) × Waits whole stack from before

-- what the parser tells of the tokens before the rest
abbrev pub Knows : List Token → Parsing → List Token → Type 0
Knows whole (parsing Expects stack output) rest = Waits whole stack rest output
Knows whole (parsing HasNumber stack output) rest = IsNumberAt 6 whole stack output rest
Knows whole (parsing HasTruth stack output) rest = IsTruthAt whole stack output rest
Knows whole (parsing (HasNamed p) stack output) rest = Waits whole stack (Named p ∷ rest) output
Knows whole (parsing (Directed transport direction) stack output) rest =
    (from : List Token) × (mid : List Token) × SpellsTransport from mid transport × SpellsDirection mid rest direction × Waits whole stack from output
Knows whole (parsing (Widened transport direction) stack output) rest =
    (from : List Token) × (mid : List Token) × SpellsTransport from mid transport
    × ((after : List Token) → rest ≡ Destination ∷ after → SpellsDirection mid after direction) × Waits whole stack from output
Knows whole (parsing WantsProtocol stack output) rest = Waits whole stack (Named IpName ∷ Proto ∷ rest) output
Knows whole (parsing (WantsAddress direction) stack output) rest =
    (from : List Token) × SpellsDirection from (Host ∷ rest) direction × Waits whole stack from output
Knows whole (parsing (WantsNetwork direction) stack output) rest =
    (from : List Token) × SpellsDirection from (Net ∷ rest) direction × Waits whole stack from output
Knows whole (parsing (WantsSlash direction a) stack output) rest =
    (from : List Token) × SpellsDirection from (Net ∷ Address a ∷ rest) direction × Waits whole stack from output
Knows whole (parsing (WantsBits direction a) stack output) rest =
    (from : List Token) × SpellsDirection from (Net ∷ Address a ∷ Operates Divide ∷ rest) direction × Waits whole stack from output
Knows whole (parsing (WantsPort transport direction) stack output) rest =
    (from : List Token) × (mid : List Token) × SpellsTransport from mid transport × SpellsDirection mid (Port ∷ rest) direction × Waits whole stack from output
Knows whole (parsing (WantsFirst transport direction) stack output) rest =
    (from : List Token) × (mid : List Token) × SpellsTransport from mid transport × SpellsDirection mid (PortRange ∷ rest) direction × Waits whole stack from output
Knows whole (parsing (WantsDash transport direction n) stack output) rest =
    (from : List Token) × (mid : List Token) × SpellsTransport from mid transport × SpellsDirection mid (PortRange ∷ Number n ∷ rest) direction × Waits whole stack from output
Knows whole (parsing (WantsLast transport direction n) stack output) rest =
    (from : List Token) × (mid : List Token) × SpellsTransport from mid transport
    × SpellsDirection mid (PortRange ∷ Number n ∷ Operates Subtract ∷ rest) direction × Waits whole stack from output
Knows whole (parsing WantsMost stack output) rest = Waits whole stack (Less ∷ rest) output
Knows whole (parsing WantsLeast stack output) rest = Waits whole stack (Greater ∷ rest) output
Knows whole (parsing (WantsSize p) stack output) rest =
    (from : List Token) × (a : ArithTree) × (before : List Item) × SpellsArith 0 from (Colon ∷ rest) a × (output ≡ with_arith a before)
    × Waits whole stack (Named p ∷ OpenIndex ∷ from) before
Knows whole (parsing (WantsEnd p size) stack output) rest =
    (from : List Token) × (a : ArithTree) × (before : List Item) × (n : Token) × SpellsArith 0 from (Colon ∷ n ∷ rest) a × SpellsSize n size
    × (output ≡ with_arith a before) × Waits whole stack (Named p ∷ OpenIndex ∷ from) before

abbrev pub KnowsIfAny : List Token → Option Parsing → List Token → Type 0
KnowsIfAny whole found rest = IfAny (λ parser. Knows whole parser rest) found

-- what it tells once the lookahead has reduced
abbrev pub KnowsReduced : ℕ → List Token → Parsing → List Token → Type 0
KnowsReduced precedence whole (parsing HasNumber stack output) rest = IsNumberAt precedence whole stack output rest × TopBelow precedence stack
KnowsReduced precedence whole parser rest = Knows whole parser rest

pub arith-looser : {precedence : ℕ} {from rest : List Token} {a : ArithTree} → SpellsArith precedence from rest a → (looser : ℕ) → looser ≤ precedence → SpellsArith looser from rest a
arith-looser (operand d) looser h = operand d
arith-looser (combined operator tight d e) looser h = combined operator (omega arith) d e

precedence-below : (operator : Operator) → precedence_of operator < 6
precedence-below BitOr = omega arith
precedence-below ExclusiveOr = omega arith
precedence-below BitAnd = omega arith
precedence-below ShiftLeft = omega arith
precedence-below ShiftRight = omega arith
precedence-below Add = omega arith
precedence-below Subtract = omega arith
precedence-below Multiply = omega arith
precedence-below Divide = omega arith
precedence-below Modulo = omega arith

top-below : (stack : List Pending) → TopBelow 6 stack
top-below [] = tt
top-below (Joined word ∷ stack) = tt
top-below (Negated ∷ stack) = tt
top-below (Bracket numeric ∷ stack) = tt
top-below (Compared relator ∷ stack) = tt
top-below (Operated operator ∷ stack) = precedence-below operator
top-below (Index p ∷ stack) = tt

-- an expression without `and` and `or` that has been spelt takes its place
module _ (whole rest : List Token) (P : Parsing → Type 0)
    (holds : (stack : List Pending) (output : List Item) → IsTruthAt whole stack output rest → P (parsing HasTruth stack output)) where
  reduced_connectives-holds : (stack : List Pending) (output : List Item) (from : List Token) (e : Tree) (before : List Item) →
      SpellsUnary from rest e → output ≡ with_tree e before → Waits whole stack from before → P (reduced_connectives stack output)
  reduced_connectives-holds [] output from e before d is w = holds [] output (from, e, before, unary d, is, w)
  reduced_connectives-holds (Joined word ∷ stack) output from e before d is (start, a, earlier, left, was, w) =
      holds stack (output ++ junction_of word ∷ []) (
        start,
        joined word a e,
        earlier,
        junction word left d,
        ap (λ i. i ++ junction_of word ∷ []) (is ∙ ap (with_tree e) was) ∙ with_tree-joined word a e earlier,
        w,
      )
  reduced_connectives-holds (Negated ∷ stack) output from e before d is w =
      reduced_connectives-holds stack (output ++ Negate ∷ []) (Not ∷ from) (negation e) before (negated d) (ap (λ i. i ++ Negate ∷ []) is) w
  reduced_connectives-holds (Bracket numeric ∷ stack) output from e before d is w = holds (Bracket numeric ∷ stack) output (from, e, before, unary d, is, w)
  reduced_connectives-holds (Compared relator ∷ stack) output from e before d is w = holds (Compared relator ∷ stack) output (from, e, before, unary d, is, w)
  reduced_connectives-holds (Operated operator ∷ stack) output from e before d is w = holds (Operated operator ∷ stack) output (from, e, before, unary d, is, w)
  reduced_connectives-holds (Index p ∷ stack) output from e before d is w = holds (Index p ∷ stack) output (from, e, before, unary d, is, w)

-- and a primitive that has been spelt
primitive-holds : (whole rest : List Token) (stack : List Pending) (output : List Item) (from : List Token) (p : Primitive) →
    SpellsPrimitive from rest p → Waits whole stack from output → Knows whole (reduced_connectives stack (output ++ PushPrimitive p ∷ [])) rest
primitive-holds whole rest stack output from p d w =
    reduced_connectives-holds whole rest (λ s. Knows whole s rest) (λ fs is t. t) stack (output ++ PushPrimitive p ∷ []) from (primitive p) output (simple d) refl w

-- the operators that wait take their right sides
reduced_operators-holds : (whole rest : List Token) (precedence bound : ℕ) (stack : List Pending) (output : List Item) → precedence ≤ bound →
    IsNumberAt bound whole stack output rest → TopBelow bound stack → KnowsReduced precedence whole (reduced_operators precedence stack output) rest
reduced_operators-holds whole rest precedence bound [] output low (from, a, before, d, is, w) top = ((from, a, before, arith-looser d precedence low, is, w), tt)
reduced_operators-holds whole rest precedence bound (Joined word ∷ stack) output low (from, a, before, d, is, w) top = ((from, a, before, arith-looser d precedence low, is, w), tt)
reduced_operators-holds whole rest precedence bound (Negated ∷ stack) output low (from, a, before, d, is, w) top = ((from, a, before, arith-looser d precedence low, is, w), tt)
reduced_operators-holds whole rest precedence bound (Bracket numeric ∷ stack) output low (from, a, before, d, is, w) top = ((from, a, before, arith-looser d precedence low, is, w), tt)
reduced_operators-holds whole rest precedence bound (Compared relator ∷ stack) output low (from, a, before, d, is, w) top = ((from, a, before, arith-looser d precedence low, is, w), tt)
reduced_operators-holds whole rest precedence bound (Index p ∷ stack) output low (from, a, before, d, is, w) top = ((from, a, before, arith-looser d precedence low, is, w), tt)
reduced_operators-holds whole rest precedence bound (Operated operator ∷ stack) output low (from, a, before, d, is, (start, b, earlier, left, was, w, below)) top =
    elim (nat_le precedence (precedence_of operator))
    as (λ t. nat_le precedence (precedence_of operator) ≡ t → KnowsReduced precedence whole (cond t (reduced_operators precedence stack (output ++ Operate operator ∷ [])) (parsing HasNumber (Operated operator ∷ stack) output)) rest) [
      | true ↦ λ h. reduced_operators-holds whole rest precedence (precedence_of operator) stack (output ++ Operate operator ∷ []) (leb-true precedence (precedence_of operator) h) (
        start,
        operation b operator a,
        earlier,
        combined operator (omega arith) left (arith-looser d (suc (precedence_of operator)) (omega (arith, top))),
        ap (λ i. i ++ Operate operator ∷ []) (is ∙ ap (with_arith a) was),
        w,
      ) below
      | false ↦ λ h. ((from, a, before, arith-looser d precedence low, is, (start, b, earlier, left, was, w, below)), leb-false precedence (precedence_of operator) h)
    ] refl

precedence-within : (lookahead : Option Token) → lookahead_precedence lookahead ≤ 6
precedence-within None = omega arith
precedence-within (Some (Operates operator)) = omega (arith, precedence-below operator)
precedence-within (Some _) = omega arith

truth-reduced : (precedence : ℕ) (whole rest : List Token) (stack : List Pending) (output : List Item) → IsTruthAt whole stack output rest →
    KnowsReduced precedence whole (parsing HasTruth stack output) rest
truth-reduced precedence whole rest stack output t = t

-- reductions keep what is known
reduced_relation-holds : (whole rest : List Token) (precedence : ℕ) (end : Bool) (parser : Parsing) → KnowsReduced precedence whole parser rest →
    KnowsReduced precedence whole (reduced_relation end parser) rest
reduced_relation-holds whole rest precedence true (parsing HasNumber (Compared relator ∷ stack) output) ((from, b, before, d, is, (start, a, earlier, left, was, w)), top) =
    reduced_connectives-holds whole rest (λ s. KnowsReduced precedence whole s rest) (truth-reduced precedence whole rest) stack (output ++ Relate relator ∷ []) start
    (relation a relator b) earlier (related relator left (arith-looser d 0 (omega arith)))
    (ap (λ i. i ++ Relate relator ∷ []) (is ∙ ap (with_arith b) was)) w
reduced_relation-holds whole rest precedence _ parser k = k

declared-holds : (whole rest : List Token) (precedence : ℕ) (is : Bool) (p : Protocol) (stack : List Pending) (output : List Item) →
    Waits whole stack (Named p ∷ rest) output → KnowsReduced precedence whole (reduced_name is p stack output) rest
declared-holds whole rest precedence true p stack output w =
    reduced_connectives-holds whole rest (λ s. KnowsReduced precedence whole s rest) (truth-reduced precedence whole rest) stack (output ++ PushPrimitive (named p) ∷ [])
    (Named p ∷ rest) (primitive (named p)) output (simple protocol) refl w
declared-holds whole rest precedence false p stack output w = w

reduced-holds : (whole rest : List Token) (lookahead : Option Token) (parser : Parsing) → Knows whole parser rest →
    KnowsReduced (lookahead_precedence lookahead) whole (reduced lookahead parser) rest
reduced-holds whole rest lookahead (parsing HasNumber stack output) k =
    reduced_relation-holds whole rest (lookahead_precedence lookahead) (ends lookahead) (reduced_operators (lookahead_precedence lookahead) stack output)
    (reduced_operators-holds whole rest (lookahead_precedence lookahead) 6 stack output (precedence-within lookahead) k (top-below stack))
reduced-holds whole rest lookahead (parsing (HasNamed p) stack output) k =
    declared-holds whole rest (lookahead_precedence lookahead) (ends lookahead && negation_of (is_numeric stack)) p stack output k
reduced-holds whole rest lookahead (parsing _ stack output) k = k

in_direction-holds : (whole rest : List Token) (token : Token) (transport : Transport) (direction : Direction) (stack : List Pending) (output : List Item)
    (from mid : List Token) → SpellsTransport from mid transport → SpellsDirection mid (token ∷ rest) direction → Waits whole stack from output →
    KnowsIfAny whole (in_direction token transport direction stack output) rest
in_direction-holds whole rest Host Unnamed direction stack output from mid unnamed d w = (from, d, w)
in_direction-holds whole rest Net Unnamed direction stack output from mid unnamed d w = (from, d, w)
in_direction-holds whole rest Port transport direction stack output from mid t d w = (from, mid, t, d, w)
in_direction-holds whole rest PortRange transport direction stack output from mid t d w = (from, mid, t, d, w)
in_direction-holds whole rest _ _ direction stack output from mid t d w = tt

after_source-holds : (whole rest : List Token) (token : Token) (transport : Transport) (stack : List Pending) (output : List Item)
    (from after : List Token) → SpellsTransport from (Source ∷ after) transport → after ≡ token ∷ rest → Waits whole stack from output →
    KnowsIfAny whole (after_source transport token stack output) rest
after_source-holds whole rest (Connects Or) transport stack output from after t e w = (
  from,
  Source ∷ after,
  t,
  λ behind e'. let same : after ≡ Connects Or ∷ Destination ∷ behind = e ∙ ap (λ ts. Connects Or ∷ ts) e' in
      rw same source_or_destination,
  w,
)
after_source-holds whole rest (Connects And) transport stack output from after t e w = (
  from,
  Source ∷ after,
  t,
  λ behind e'. let same : after ≡ Connects And ∷ Destination ∷ behind = e ∙ ap (λ ts. Connects And ∷ ts) e' in
      rw same source_and_destination,
  w,
)
after_source-holds whole rest token transport stack output from after t e w =
    in_direction-holds whole rest token transport FromSource stack output from (Source ∷ after) t (rw (sym e) source) w

begins_direction-holds : (whole rest : List Token) (token : Token) (transport : Transport) (stack : List Pending) (output : List Item)
    (from : List Token) → SpellsTransport from (token ∷ rest) transport → Waits whole stack from output →
    KnowsIfAny whole (begins_direction transport token stack output) rest
begins_direction-holds whole rest Source transport stack output from t w = (from, Source ∷ rest, t, source, w)
begins_direction-holds whole rest Destination transport stack output from t w = (from, Destination ∷ rest, t, destination, w)
begins_direction-holds whole rest token transport stack output from t w =
    in_direction-holds whole rest token transport Either stack output from (token ∷ rest) t undirected w

begins_truth-holds : (whole rest : List Token) (token : Token) (stack : List Pending) (output : List Item) →
    Waits whole stack (token ∷ rest) output → KnowsIfAny whole (begins_truth token stack output) rest
begins_truth-holds whole rest Not stack output w = w
begins_truth-holds whole rest Less stack output w = w
begins_truth-holds whole rest Greater stack output w = w
begins_truth-holds whole rest token stack output w = begins_direction-holds whole rest token Unnamed stack output (token ∷ rest) unnamed w

begins-holds : (whole rest : List Token) (token : Token) (stack : List Pending) (output : List Item) →
    Waits whole stack (token ∷ rest) output → KnowsIfAny whole (begins token stack output) rest
begins-holds whole rest (Number n) stack output w = (Number n ∷ rest, number n, output, operand literal, refl, w)
begins-holds whole rest Length stack output w = (Length ∷ rest, packet_length, output, operand len, refl, w)
begins-holds whole rest (Named p) stack output w = w
begins-holds whole rest Open stack output w = w
begins-holds whole rest token stack output w =
    unless (λ s. Knows whole s rest) (is_numeric stack) (begins_truth token stack output) (λ _. begins_truth-holds whole rest token stack output w)

after_number-holds : (whole rest : List Token) (token : Token) (stack : List Pending) (output : List Item) →
    KnowsReduced (lookahead_precedence (Some token)) whole (parsing HasNumber stack output) (token ∷ rest) → KnowsIfAny whole (after_number token stack output) rest
after_number-holds whole rest (Operates operator) stack output ((from, a, before, d, is, w), top) = (from, a, before, d, is, w, top)
after_number-holds whole rest (Compares relator) stack output ((from, a, before, d, is, w), top) =
    unless (λ s. Knows whole s rest) (is_numeric stack) (Some (parsing Expects (Compared relator ∷ stack) output)) (λ _. (from, a, before, d, is, w))
after_number-holds whole rest Close (Bracket numeric ∷ stack) output ((from, a, before, d, is, w), top) =
    (Open ∷ from, a, before, operand (bracketed d), is, w)
after_number-holds whole rest CloseIndex (Index p ∷ stack) output ((from, a, before, d, is, w), top) =
    (Named p ∷ OpenIndex ∷ from, accessor p a One, before, operand (byte_at d), ap (λ i. i ++ Access p One ∷ []) is, w)
after_number-holds whole rest Colon (Index p ∷ stack) output ((from, a, before, d, is, w), top) = (from, a, before, d, is, w)
after_number-holds whole rest _ _ output k = tt

after_truth-holds : (whole rest : List Token) (token : Token) (stack : List Pending) (output : List Item) →
    IsTruthAt whole stack output (token ∷ rest) → KnowsIfAny whole (after_truth token stack output) rest
after_truth-holds whole rest (Connects word) stack output (from, e, before, d, is, w) = (from, e, before, d, is, w)
after_truth-holds whole rest Close (Bracket numeric ∷ stack) output (from, e, before, d, is, w) =
    reduced_connectives-holds whole rest (λ s. Knows whole s rest) (λ fs i t. t) stack output (Open ∷ from) e before (enclosed d) is w
after_truth-holds whole rest _ _ output k = tt

after_protocol-holds : (whole rest : List Token) (p : Protocol) (token : Token) (stack : List Pending) (output : List Item) →
    Waits whole stack (Named p ∷ token ∷ rest) output → KnowsIfAny whole (after_protocol p token stack output) rest
after_protocol-holds whole rest IpName Proto stack output w = w
after_protocol-holds whole rest TcpName token stack output w =
    begins_direction-holds whole rest token Tcp stack output (Named TcpName ∷ token ∷ rest) tcp w
after_protocol-holds whole rest UdpName token stack output w =
    begins_direction-holds whole rest token Udp stack output (Named UdpName ∷ token ∷ rest) udp w
after_protocol-holds whole rest _ _ stack output w = tt

after_name-holds : (whole rest : List Token) (p : Protocol) (token : Token) (stack : List Pending) (output : List Item) →
    Waits whole stack (Named p ∷ token ∷ rest) output → KnowsIfAny whole (after_name p token stack output) rest
after_name-holds whole rest p OpenIndex stack output w = w
after_name-holds whole rest p token stack output w =
    unless (λ s. Knows whole s rest) (is_numeric stack) (after_protocol p token stack output) (λ _. after_protocol-holds whole rest p token stack output w)

source-mid : {mid after : List Token} {direction : Direction} → SpellsDirection mid after direction → direction ≡ FromSource → mid ≡ Source ∷ after
source-mid undirected e = absurd cc
source-mid source e = refl
source-mid destination e = absurd cc
source-mid source_or_destination e = absurd cc
source-mid source_and_destination e = absurd cc

in_primitive-holds : (whole rest : List Token) (state : State) (token : Token) (stack : List Pending) (output : List Item) →
    Knows whole (parsing state stack output) (token ∷ rest) → KnowsIfAny whole (in_primitive state token stack output) rest
in_primitive-holds whole rest (Directed transport FromSource) token stack output (from, mid, t, d, w) =
    after_source-holds whole rest token transport stack output from (token ∷ rest) (subst (λ m. SpellsTransport from m transport) (source-mid d refl) t) refl w
in_primitive-holds whole rest (Directed transport direction) token stack output (from, mid, t, d, w) =
    in_direction-holds whole rest token transport direction stack output from mid t d w
in_primitive-holds whole rest (Widened transport direction) Destination stack output (from, mid, t, d, w) = (from, mid, t, d rest refl, w)
in_primitive-holds whole rest WantsProtocol (Number n) stack output w =
    primitive-holds whole rest stack output (Named IpName ∷ Proto ∷ Number n ∷ rest) _ proto w
in_primitive-holds whole rest (WantsAddress direction) (Address a) stack output (from, d, w) =
    primitive-holds whole rest stack output from _ (host d) w
in_primitive-holds whole rest (WantsNetwork direction) (Address a) stack output (from, d, w) = (from, d, w)
in_primitive-holds whole rest (WantsSlash direction a) (Operates Divide) stack output (from, d, w) = (from, d, w)
in_primitive-holds whole rest (WantsBits direction a) (Number n) stack output (from, d, w) =
    primitive-holds whole rest stack output from _ (net d) w
in_primitive-holds whole rest (WantsPort transport direction) (Number n) stack output (from, mid, t, d, w) =
    primitive-holds whole rest stack output from _ (port t d) w
in_primitive-holds whole rest (WantsFirst transport direction) (Number n) stack output (from, mid, t, d, w) = (from, mid, t, d, w)
in_primitive-holds whole rest (WantsDash transport direction n) (Operates Subtract) stack output (from, mid, t, d, w) = (from, mid, t, d, w)
in_primitive-holds whole rest (WantsLast transport direction n) (Number m) stack output (from, mid, t, d, w) =
    primitive-holds whole rest stack output from _ (portrange t d) w
in_primitive-holds whole rest WantsMost (Number n) stack output w = primitive-holds whole rest stack output (Less ∷ Number n ∷ rest) _ less w
in_primitive-holds whole rest WantsLeast (Number n) stack output w = primitive-holds whole rest stack output (Greater ∷ Number n ∷ rest) _ greater w
in_primitive-holds whole rest _ _ stack output k = tt

-- the size that a number is
size-spelt : (n : ℕ) (size : Size) → size_of_number n ≡ Some size → SpellsSize (Number n) size
size-spelt n size e =
    elim (nat_eq n 1) as (λ t. nat_eq n 1 ≡ t → cond t (Some One) (cond (nat_eq n 2) (Some Two) (cond (nat_eq n 4) (Some Four) None)) ≡ Some size → SpellsSize (Number n) size) [
      | true ↦ λ is e'. let same : One ≡ size = cc in subst (SpellsSize (Number n)) same (subst (λ m. SpellsSize (Number m) One) (sym (eqb-true n 1 is)) one)
      | false ↦ λ _. elim (nat_eq n 2) as (λ t. nat_eq n 2 ≡ t → cond t (Some Two) (cond (nat_eq n 4) (Some Four) None) ≡ Some size → SpellsSize (Number n) size) [
        | true ↦ λ is e'. let same : Two ≡ size = cc in subst (SpellsSize (Number n)) same (subst (λ m. SpellsSize (Number m) Two) (sym (eqb-true n 2 is)) two)
        | false ↦ λ _. elim (nat_eq n 4) as (λ t. nat_eq n 4 ≡ t → cond t (Some Four) None ≡ Some size → SpellsSize (Number n) size) [
          | true ↦ λ is e'. let same : Four ≡ size = cc in subst (SpellsSize (Number n)) same (subst (λ m. SpellsSize (Number m) Four) (sym (eqb-true n 4 is)) four)
          | false ↦ λ _ e'. absurd cc
        ] refl
      ] refl
    ] refl e

sized-holds : (whole rest : List Token) (p : Protocol) (n : ℕ) (size : Option Size) (stack : List Pending) (output : List Item) → size_of_number n ≡ size →
    Knows whole (parsing (WantsSize p) stack output) (Number n ∷ rest) → KnowsIfAny whole (sized_by p size stack output) rest
sized-holds whole rest p n None stack output e k = tt
sized-holds whole rest p n (Some size) stack output e (from, a, before, d, is, w) = (from, a, before, Number n, d, size-spelt n size e, is, w)

pub shifted-holds : (whole rest : List Token) (token : Token) (parser : Parsing) → KnowsReduced (lookahead_precedence (Some token)) whole parser (token ∷ rest) →
    KnowsIfAny whole (shifted token parser) rest
shifted-holds whole rest token (parsing Expects stack output) k = begins-holds whole rest token stack output k
shifted-holds whole rest token (parsing HasNumber stack output) k = after_number-holds whole rest token stack output k
shifted-holds whole rest token (parsing HasTruth stack output) k = after_truth-holds whole rest token stack output k
shifted-holds whole rest token (parsing (HasNamed p) stack output) k = after_name-holds whole rest p token stack output k
shifted-holds whole rest (Number n) (parsing (WantsSize p) stack output) k = sized-holds whole rest p n (size_of_number n) stack output refl k
shifted-holds whole rest CloseIndex (parsing (WantsEnd p size) stack output) (from, a, before, n, d, s, is, w) =
    (Named p ∷ OpenIndex ∷ from, accessor p a size, before, operand (bytes_at n s d), ap (λ i. i ++ Access p size ∷ []) is, w)
shifted-holds whole rest token (parsing state stack output) k = in_primitive-holds whole rest state token stack output k

-- the parts are those of a tree that the tokens spell
abbrev pub IsSpelt : List Token → List Item → Type 0
IsSpelt whole output = (tree : Tree) × Spells whole tree × (output ≡ with_tree tree [])

truth-spelt : (whole : List Token) (known output : List Item) → IsTruthAt whole [] known [] → Some known ≡ Some output → IsSpelt whole output
truth-spelt whole known output (from, e, before, d, is, (start, none)) h =
    let same : known ≡ output = cc in
    (e, subst (λ ts. SpellsExpr ts [] e) start d, sym same ∙ is ∙ ap (with_tree e) none)

accepted-spelt : (whole : List Token) (parser : Parsing) (output : List Item) → KnowsReduced 0 whole parser [] → accepted parser ≡ Some output → IsSpelt whole output
accepted-spelt whole (parsing HasTruth [] known) output k h = truth-spelt whole known output k h
accepted-spelt whole _ output k h = absurd cc

step-spelt : (whole rest : List Token) (output : List Item) (parser : Option Parsing) →
    ((s : Parsing) → Knows whole s rest → run rest s ≡ Some output → IsSpelt whole output) →
    KnowsIfAny whole parser rest → option_and_then (run rest) parser ≡ Some output → IsSpelt whole output
step-spelt whole rest output None go k h = absurd cc
step-spelt whole rest output (Some parser) go k h = go parser k h

pub run-holds : (whole rest : List Token) (output : List Item) (parser : Parsing) → Knows whole parser rest → run rest parser ≡ Some output → IsSpelt whole output
run-holds whole [] output parser k h = accepted-spelt whole (reduced None parser) output (reduced-holds whole [] None parser k) h
run-holds whole (token ∷ rest) output parser k h =
    step-spelt whole rest output (shifted token (reduced (Some token) parser)) (λ s. run-holds whole rest output s)
    (shifted-holds whole rest token (reduced (Some token) parser) (reduced-holds whole (token ∷ rest) (Some token) parser k)) h

-- what the parser takes for whole is spelt
pub spelt-run : (tokens : List Token) (output : List Item) → run tokens (parsing Expects [] []) ≡ Some output → IsSpelt tokens output
spelt-run tokens output h = run-holds tokens tokens output (parsing Expects [] []) (refl, refl) h
