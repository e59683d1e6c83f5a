use Rattle.std.proofs.Common.{ap, arith, drop, length, map, refl, set, slice_index, subst, sym, take, ◌+◌, ◌-◌, ◌≡◌, ◌≤◌, ◌∙◌, ℕ, rules}
use Rattle.std.proofs.lemmas.Grind.{get_or_default_zero}
use Rattle.std.proofs.lemmas.List.{length-map}
use Rattle.config_image.specs.declared.TheConstants.{ROW_WORDS}
use Rattle.config_image.specs.PageTable.{page_of}
use Rattle.versions.specs.Free.{IsFreeRow, number_after}
use Rattle.versions.specs.Layout.{HoldsForm, pages_named}
use Rattle.versions.specs.Table.{the_shape}
use Rattle.versions.proofs.ShapeLemmas.{last_number_is}
use Rattle.read_section.specs.Layout.{HoldsConfig, IsZeroFrom}
use Rattle.read_section.specs.body.OperatorKept.{IsKeptBy}
use Rattle.read_section.specs.Operator.{OperatorValue}
use Rattle.read_section.proofs.FilledLemmas.{row_inside}
use Rattle.read_section.proofs.KeeperLemmas.{IsKeptBy-published, IsKeptBy-zeros}
use Rattle.read_section.proofs.PutLemmas.{end_within, holds_named, names_give, own_row, pages_are, pages_few, pages_fit, zero_behind}
use Rattle.read_section.proofs.operator.Operator.put.Goals as goal

pub publish-requires-clause-holds : goal.publish-requires-clause-holds
publish-requires-clause-holds c = holds_named _ _ _ _ _ _ _ c.self.invariant c.args.row c.args.config c.requires.free.0 c.requires.publishable (subst (λ (o : OperatorValue). HoldsConfig o.view c.args.row c.args.config) (sym c.self.view_is) c.requires.holds)

pub count_version-requires-clause-row : goal.count_version-requires-clause-row
count_version-requires-clause-row c = row_inside c.args.row c.requires.free.0

pub overflow_add-self-inside : goal.overflow_add-self-inside
overflow_add-self-inside c = let low = c.self.invariant.number_limited in omega arith

pub publish-requires-clause-free : goal.publish-requires-clause-free
publish-requires-clause-free c = subst (λ (o : OperatorValue). IsFreeRow the_shape o.view c.args.row) (sym c.self.view_is) c.requires.free

pub publish-requires-clause-limited : goal.publish-requires-clause-limited
publish-requires-clause-limited c = let number = c.self.invariant.steps_told.number in let same = ap (λ (o : OperatorValue). number_after o.view.log) c.self.view_is in let low = c.requires.number in omega (arith, last_number_is)

pub count_version-requires-clause-number : goal.count_version-requires-clause-number
count_version-requires-clause-number c = let number = c.self.invariant.steps_told.number in let same = ap (λ (o : OperatorValue). number_after o.view.log) c.self.view_is in let low = c.requires.number in omega arith

pub row_begin-begin-requires : goal.row_begin-begin-requires
row_begin-begin-requires c = row_inside c.args.row c.requires.free.0

pub overflow_add-begin : goal.overflow_add-begin
overflow_add-begin c = let at = c.row_begin-begin.ensures in let low = row_inside c.args.row c.requires.free.0 in omega arith

pub offset_bounds-deref-begin : goal.offset_bounds-deref-begin
offset_bounds-deref-begin c = let at = c.row_begin-begin.ensures in let low = row_inside c.args.row c.requires.free.0 in omega arith

pub slice_bounds-row_names-end : goal.slice_bounds-row_names-end
slice_bounds-row_names-end c = let at = c.row_begin-begin.ensures in let low = row_inside c.args.row c.requires.free.0 in let long = c.self.invariant.words_length in let same = ap length c.deref.ensures.value in omega arith

pub count_version-requires-clause-pages : goal.count_version-requires-clause-pages
count_version-requires-clause-pages c = let q = c.requires in let low = q.free.0 in let begin = c.row_begin-begin.result in
    let given = names_give _ _ _ _ _ _ _ c.self.invariant c.args.row c.args.config low q.publishable _ c.row_names-names.result.now
    (ap (λ l. take ((begin + ROW_WORDS) - begin) (drop begin l)) c.deref.ensures.value ∙ own_row _ _ _ _ _ _ _ c.self.invariant c.args.row c.args.config low q.publishable begin (begin + ROW_WORDS) c.row_begin-begin.ensures refl) c.row_names-names.ensures.pages in
    let holds = subst (λ (o : OperatorValue). HoldsConfig o.view c.args.row c.args.config) (sym c.self.view_is) q.holds in
    pages_fit _ _ _ _ _ _ _ c.self.invariant c.args.row c.args.config low q.publishable holds (map page_of c.row_names-names.result.now) given

pub replace-requires : goal.replace-requires
replace-requires c = let q = c.requires in let low = q.free.0 in let begin = c.row_begin-begin.result in
    let given = names_give _ _ _ _ _ _ _ c.self.invariant c.args.row c.args.config low q.publishable _ c.row_names-names.result.now
    (ap (λ l. take ((begin + ROW_WORDS) - begin) (drop begin l)) c.deref.ensures.value ∙ own_row _ _ _ _ _ _ _ c.self.invariant c.args.row c.args.config low q.publishable begin (begin + ROW_WORDS) c.row_begin-begin.ensures refl) c.row_names-names.ensures.pages in
    let holds = subst (λ (o : OperatorValue). HoldsConfig o.view c.args.row c.args.config) (sym c.self.view_is) q.holds in
    omega (arith, pages_few _ _ _ _ _ _ _ c.self.invariant c.args.row c.args.config low q.publishable holds (map page_of c.row_names-names.result.now) given, length-map c.row_names-names.result.now page_of)

pub bounds-self-inside-row : goal.bounds-self-inside-row
bounds-self-inside-row c = row_inside c.args.row c.requires.free.0

pub invariant_of-self : goal.invariant_of-self
invariant_of-self c = let q = c.requires in let low = q.free.0 in let begin = c.row_begin-begin.result in
    let given = names_give _ _ _ _ _ _ _ c.self.invariant c.args.row c.args.config low q.publishable _ c.row_names-names.result.now
    (ap (λ l. take ((begin + ROW_WORDS) - begin) (drop begin l)) c.deref.ensures.value ∙ own_row _ _ _ _ _ _ _ c.self.invariant c.args.row c.args.config low q.publishable begin (begin + ROW_WORDS) c.row_begin-begin.ensures refl) c.row_names-names.ensures.pages in
    let holds = subst (λ (o : OperatorValue). HoldsConfig o.view c.args.row c.args.config) (sym c.self.view_is) q.holds in
    let number = c.self.invariant.steps_told.number in let same = ap (λ (o : OperatorValue). number_after o.view.log) c.self.view_is in let under = q.number in
    let first = c.index.ensures ∙ get_or_default_zero c.self.inside.words.items begin c.index.result.now (let at = c.row_begin-begin.ensures in let long = c.self.invariant.words_length in let inside = row_inside c.args.row low in omega arith) ∙ ap (slice_index c.self.inside.words.items) c.row_begin-begin.ensures in
    let zeros = set c.self.inside.zeros c.args.row c.form_end.result in
    let within = subst (λ (n : ℕ). n ≤ ROW_WORDS) (sym c.form_end.ensures) (end_within _ _ _ _ _ _ _ c.self.invariant c.args.row c.args.config low q.publishable holds c.index.result.now first) in
    let behind = subst (IsZeroFrom c.self.inside.seat.view c.args.row) (sym c.form_end.ensures) (zero_behind _ _ _ _ _ _ _ c.self.invariant c.args.row c.args.config low q.publishable holds c.index.result.now first) in
    let kept = subst (λ o. IsKeptBy o.view c.args.config c.count_version.new.self c.self.inside.reported zeros c.self.inside.words.items (map page_of c.row_names-names.result.now)) (sym c.publish.ensures)
    (IsKeptBy-zeros _ _ _ _ _ _ _ (IsKeptBy-published _ _ _ _ _ _ _ c.self.invariant c.args.row c.args.config (map page_of c.row_names-names.result.now) c.count_version.new.self (subst (λ (o : OperatorValue). IsFreeRow the_shape o.view c.args.row) (sym c.self.view_is) q.free) (omega arith)
    (subst (HoldsForm the_shape 0 c.self.inside.seat.view.stored c.args.row c.args.config) (sym given) (holds_named _ _ _ _ _ _ _ c.self.invariant c.args.row c.args.config low q.publishable holds)) (sym given)
    (pages_few _ _ _ _ _ _ _ c.self.invariant c.args.row c.args.config low q.publishable holds (map page_of c.row_names-names.result.now) given) c.count_version.ensures.counted)
    c.args.row c.form_end.result (row_inside c.args.row low) within behind) in
    search (rules, kept)

pub returns-clause-named : goal.returns-clause-named
returns-clause-named c = λ pages holds. let q = c.requires in
    subst (λ (o : OperatorValue). HoldsForm the_shape 0 o.view.stored c.args.row c.args.config pages → pages_named the_shape o.view.stored c.args.row ≡ pages) c.self.view_is
    (λ x. pages_are _ _ _ _ _ _ _ c.self.invariant c.args.row c.args.config q.free.0 q.publishable (pages, x)) holds

pub returns-clause-pool_kept : goal.returns-clause-pool_kept
returns-clause-pool_kept c = λ page names free. let replaced = (free.1 _ names).0 in omega arith

pub returns-clause-one_publish : goal.returns-clause-one_publish
returns-clause-one_publish c = search rules
