use Rattle.std.proofs.Common.{◌≡◌, ◌∙◌, ◌⊎◌, Bool, List, None, Some, ap, arith, cond, false, inl, inr, nat_le, refl, subst, sym, true, ℕ}
use Rattle.std.proofs.lemmas.Bool.Decides.{nat_tests}
use Rattle.filter_tree.specs.declared.arithmetic.Protocol.{Protocol}
use Rattle.filter_tree.specs.declared.arithmetic.Size.{Size}
use Rattle.filter_tree.specs.declared.primitive.Direction.TheVariants.{Source as FromSource}
use Rattle.filter_parse.specs.declared.fault.ParseFault.TheVariants.{NumberTooBig}
use Rattle.filter_parse.specs.declared.item.Item.{Item}
use Rattle.filter_parse.specs.declared.state.Pending.{Pending}
use Rattle.filter_parse.specs.declared.state.State.{State}
use Rattle.filter_parse.specs.declared.state.State.TheVariants.{Directed, Expects, Named, Number, Truth, WantsAddress, WantsBits, WantsDash, WantsEnd, WantsFirst, WantsLast, WantsLeast, WantsMost, WantsNetwork, WantsPort, WantsProtocol, WantsSize, WantsSlash, Widened}
use Rattle.filter_parse.specs.declared.token.Token.{Token}
use Rattle.filter_parse.specs.declared.token.Token.TheVariants.{Address, Number as NumberToken, Open, OpenIndex}
use Rattle.filter_parse.specs.body.Parser.{Meets, Parsing, after_number, after_truth, fault_in, in_primitive, judged_by, limit_fault, parsing, parsing_of, reduced, shifted, size_of_number, sized_by, state_of, stepped}
use Rattle.filter_parse.specs.body.Stack.{from_top}
use Rattle.filter_parse.proofs.parser.Parser.step.Goals as goal

stepped-reduced : (lookahead : Token) (at count : ℕ) (parser next : Parsing) → next ≡ reduced (Some lookahead) parser →
    judged_by (fault_in (state_of next) count lookahead at) at (shifted lookahead next) ≡ stepped lookahead at count parser
stepped-reduced lookahead at count parser next e = ap (λ (s : Parsing). judged_by (fault_in (state_of s) count lookahead at) at (shifted lookahead s)) e

-- behind an operand or an expression no token that fits is at fault
quiet-number : (lookahead : Token) (at count : ℕ) (stack : List Pending) (output : List Item) →
    judged_by None at (after_number lookahead stack output) ≡ judged_by (fault_in Number count lookahead at) at (after_number lookahead stack output)
quiet-number (NumberToken n) at count stack output = refl
quiet-number (Address a) at count stack output = refl
quiet-number Open at count stack output = refl
quiet-number OpenIndex at count stack output = refl
quiet-number _ at count stack output = refl

quiet-truth : (lookahead : Token) (at count : ℕ) (stack : List Pending) (output : List Item) →
    judged_by None at (after_truth lookahead stack output) ≡ judged_by (fault_in Truth count lookahead at) at (after_truth lookahead stack output)
quiet-truth (NumberToken n) at count stack output = refl
quiet-truth (Address a) at count stack output = refl
quiet-truth Open at count stack output = refl
quiet-truth OpenIndex at count stack output = refl
quiet-truth _ at count stack output = refl

quiet-behind : (state : State) → (state ≡ Number) ⊎ (state ≡ Truth) → (lookahead : Token) (at count : ℕ) (stack : List Pending) (output : List Item) →
    judged_by None at (shifted lookahead (parsing state stack output)) ≡ judged_by (fault_in state count lookahead at) at (shifted lookahead (parsing state stack output))
quiet-behind state (inl e) lookahead at count stack output =
    subst (λ s. judged_by None at (shifted lookahead (parsing s stack output)) ≡ judged_by (fault_in s count lookahead at) at (shifted lookahead (parsing s stack output)))
    (sym e) (quiet-number lookahead at count stack output)
quiet-behind state (inr e) lookahead at count stack output =
    subst (λ s. judged_by None at (shifted lookahead (parsing s stack output)) ≡ judged_by (fault_in s count lookahead at) at (shifted lookahead (parsing s stack output)))
    (sym e) (quiet-truth lookahead at count stack output)

-- nor inside an accessor
small-size : (n : ℕ) → nat_le n 4294967295 ≡ false → size_of_number n ≡ None
small-size n above = grind (arith, nat_tests)

quiet-number-size : (n at : ℕ) (protocol : Protocol) (stack : List Pending) (output : List Item) (test : Bool) → nat_le n 4294967295 ≡ test →
    judged_by None at (sized_by protocol (size_of_number n) stack output) ≡ judged_by (cond test None (Some (NumberTooBig at))) at (sized_by protocol (size_of_number n) stack output)
quiet-number-size n at protocol stack output true within = refl
quiet-number-size n at protocol stack output false above = rw (small-size n above) refl

quiet-size : (lookahead : Token) (at count : ℕ) (protocol : Protocol) (stack : List Pending) (output : List Item) →
    judged_by None at (shifted lookahead (parsing (WantsSize protocol) stack output)) ≡ stepped lookahead at count (parsing (WantsSize protocol) stack output)
quiet-size (NumberToken n) at count protocol stack output = quiet-number-size n at protocol stack output (nat_le n 4294967295) refl
quiet-size _ at count protocol stack output = refl

quiet-end : (lookahead : Token) (at count : ℕ) (protocol : Protocol) (size : Size) (stack : List Pending) (output : List Item) →
    judged_by None at (shifted lookahead (parsing (WantsEnd protocol size) stack output)) ≡ stepped lookahead at count (parsing (WantsEnd protocol size) stack output)
quiet-end (NumberToken n) at count protocol size stack output = refl
quiet-end (Address a) at count protocol size stack output = refl
quiet-end Open at count protocol size stack output = refl
quiet-end OpenIndex at count protocol size stack output = refl
quiet-end _ at count protocol size stack output = refl

-- inside a primitive no bracket opens
no-bracket : (state : State) (stack : List Pending) (output : List Item) → (in_primitive state Open stack output ≡ None) × (in_primitive state OpenIndex stack output ≡ None)
no-bracket (Directed transport FromSource) stack output = (refl, refl)
no-bracket (Directed transport direction) stack output = (refl, refl)
no-bracket _ stack output = (refl, refl)

unbracketed : (state : State) (lookahead : Token) (at count : ℕ) (stack : List Pending) (output : List Item) →
    judged_by (limit_fault state lookahead at) at (in_primitive state lookahead stack output) ≡ judged_by (fault_in state count lookahead at) at (in_primitive state lookahead stack output)
unbracketed state Open at count stack output = rw (no-bracket state stack output).0 refl
unbracketed state OpenIndex at count stack output = rw (no-bracket state stack output).1 refl
unbracketed state _ at count stack output = refl

-- and the lookahead reduces nothing
quiet : (state : State) (lookahead : Token) (at count : ℕ) (stack : List Pending) (output : List Item) → (state ≡ Expects → ⊥) → (state ≡ Number → ⊥) → (state ≡ Truth → ⊥) →
    ((p : Protocol) → state ≡ Named p → ⊥) → ((p : Protocol) → state ≡ WantsSize p → ⊥) → ((p : Protocol) (size : Size) → state ≡ WantsEnd p size → ⊥) →
    judged_by (fault_in state count lookahead at) at (in_primitive state lookahead stack output) ≡ stepped lookahead at count (parsing state stack output)
quiet Expects lookahead at count stack output e n t p s z = absurd (e refl)
quiet Number lookahead at count stack output e n t p s z = absurd (n refl)
quiet Truth lookahead at count stack output e n t p s z = absurd (t refl)
quiet (Named q) lookahead at count stack output e n t p s z = absurd (p q refl)
quiet (WantsSize q) lookahead at count stack output e n t p s z = absurd (s q refl)
quiet (WantsEnd q size) lookahead at count stack output e n t p s z = absurd (z q size refl)
quiet (Directed a b) lookahead at count stack output e n t p s z = refl
quiet (Widened a b) lookahead at count stack output e n t p s z = refl
quiet WantsProtocol lookahead at count stack output e n t p s z = refl
quiet (WantsAddress a) lookahead at count stack output e n t p s z = refl
quiet (WantsNetwork a) lookahead at count stack output e n t p s z = refl
quiet (WantsSlash a b) lookahead at count stack output e n t p s z = refl
quiet (WantsBits a b) lookahead at count stack output e n t p s z = refl
quiet (WantsPort a b) lookahead at count stack output e n t p s z = refl
quiet (WantsFirst a b) lookahead at count stack output e n t p s z = refl
quiet (WantsDash a b c) lookahead at count stack output e n t p s z = refl
quiet (WantsLast a b c) lookahead at count stack output e n t p s z = refl
quiet WantsMost lookahead at count stack output e n t p s z = refl
quiet WantsLeast lookahead at count stack output e n t p s z = refl

pub returns-in-Expects : goal.returns-in-Expects
returns-in-Expects g c =
    let self = c.args.self.now in
    subst (λ state. Meets (stepped c.args.lookahead c.args.at c.args.brackets (parsing state (from_top self.stack) self.output.entries.items)) c.begin.result (parsing_of c.begin.new.self))
    (sym c.in-Expects.is) c.begin.ensures

pub returns-in_ok-reduce_number-in-Number : goal.returns-in_ok-reduce_number-in-Number
returns-in_ok-reduce_number-in-Number g c =
    let is = c.in_ok-reduce_number-in-Number.ensures in
    let next = c.reduce_number.new.self in
    subst (λ expected. Meets expected c.shift_behind_number.result (parsing_of c.shift_behind_number.new.self))
    (quiet-behind next.state is.state c.args.lookahead c.args.at c.args.brackets (from_top next.stack) next.output.entries.items
    ∙ stepped-reduced c.args.lookahead c.args.at c.args.brackets (parsing_of c.args.self.now) (parsing_of next) is.reduced)
    c.shift_behind_number.ensures

pub returns-in-Truth : goal.returns-in-Truth
returns-in-Truth g c =
    let self = c.args.self.now in
    subst (λ state. Meets (stepped c.args.lookahead c.args.at c.args.brackets (parsing state (from_top self.stack) self.output.entries.items)) c.after_truth.result (parsing_of c.after_truth.new.self))
    (sym c.in-Truth.is)
    (subst (λ expected. Meets expected c.after_truth.result (parsing_of c.after_truth.new.self))
    (quiet-truth c.args.lookahead c.args.at c.args.brackets (from_top self.stack) self.output.entries.items) c.after_truth.ensures)

pub returns-in_ok-reduce_name-in-Named : goal.returns-in_ok-reduce_name-in-Named
returns-in_ok-reduce_name-in-Named g c =
    let next = c.reduce_name.new.self in
    subst (λ expected. Meets expected c.shift_behind_name.result (parsing_of c.shift_behind_name.new.self))
    (stepped-reduced c.args.lookahead c.args.at c.args.brackets (parsing_of c.args.self.now) (parsing_of next) c.in_ok-reduce_name-in-Named.ensures.reduced)
    c.shift_behind_name.ensures

pub returns-in-WantsSize : goal.returns-in-WantsSize
returns-in-WantsSize g c =
    let self = c.args.self.now in
    subst (λ state. Meets (stepped c.args.lookahead c.args.at c.args.brackets (parsing state (from_top self.stack) self.output.entries.items)) c.after_colon.result (parsing_of c.after_colon.new.self))
    (sym c.in-WantsSize.is)
    (subst (λ expected. Meets expected c.after_colon.result (parsing_of c.after_colon.new.self))
    (quiet-size c.args.lookahead c.args.at c.args.brackets c.in-WantsSize.protocol (from_top self.stack) self.output.entries.items) c.after_colon.ensures)

pub returns-in-WantsEnd : goal.returns-in-WantsEnd
returns-in-WantsEnd g c =
    let self = c.args.self.now in
    subst (λ state. Meets (stepped c.args.lookahead c.args.at c.args.brackets (parsing state (from_top self.stack) self.output.entries.items)) c.after_size.result (parsing_of c.after_size.new.self))
    (sym c.in-WantsEnd.is)
    (subst (λ expected. Meets expected c.after_size.result (parsing_of c.after_size.new.self))
    (quiet-end c.args.lookahead c.args.at c.args.brackets c.in-WantsEnd.protocol c.in-WantsEnd.size (from_top self.stack) self.output.entries.items) c.after_size.ensures)

pub returns-in_default : goal.returns-in_default
returns-in_default g c =
    let self = c.args.self.now in
    let d = c.in_default in
    subst (λ expected. Meets expected c.in_primitive.result (parsing_of c.in_primitive.new.self))
    (unbracketed self.state c.args.lookahead c.args.at c.args.brackets (from_top self.stack) self.output.entries.items
    ∙ quiet self.state c.args.lookahead c.args.at c.args.brackets (from_top self.stack) self.output.entries.items d.not-Expects d.not-Number d.not-Truth d.not-Named d.not-WantsSize d.not-WantsEnd)
    c.in_primitive.ensures
