use Rattle.std.proofs.Common.{ap, arith, subst, sym, ℕ, ◌+◌, ◌<◌, ◌∙◌}
use Rattle.atomic_table.specs.Seated.{TableId}
use Rattle.versions.specs.Layout.{page_begin, rows_begin}
use Rattle.versions.specs.View.{after_fill}
use Rattle.versions.specs.Table.{the_shape}
use Rattle.read_section.specs.body.Seat.{acts}
use Rattle.versions.proofs.ShapeLemmas.{page_words_is, pages_is}
use Rattle.read_section.proofs.OperatorSeatLemmas.{IsOperatorSeat-on, may_fill_page, operator_after}
use Rattle.read_section.proofs.WorkerSeatLemmas.{IsSeatAt-on, page_place_inside, page_place_is, word_inside}
use Rattle.read_section.proofs.seat.OperatorSeat.fill_page.Goals as goal

pub page_place-place-requires-clause-page : goal.page_place-place-requires-clause-page
page_place-place-requires-clause-page c = let low = c.requires.free.0 in omega (arith, pages_is)

pub page_place-place-requires-clause-small : goal.page_place-place-requires-clause-small
page_place-place-requires-clause-small c = let low = c.requires.place in omega (arith, page_words_is)

pub store-requires : goal.store-requires
store-requires c = let h = c.self.invariant in let shared = c.deref.result.now.shared in let own = h.1.same_table ∙ sym (ap (λ t. t.shared.table_id) c.deref.ensures) in let place = c.page_place-place.ensures ∙ page_place_is c.args.page c.args.place in (
  own,
  subst (λ (n : ℕ). n < shared.table_id.words) (sym place) (subst (λ (t : TableId). page_begin the_shape c.args.page + c.args.place < t.words) own (word_inside _ _ _ h.1 (page_begin the_shape c.args.page + c.args.place) (page_place_inside c.args.page c.args.place c.requires.free.0 c.requires.place))),
  may_fill_page _ h.0 _ _ shared.key shared.table_id.slots c.self.inside.seat.id c.args.self.now c.self.view_is c.args.page c.args.place c.page_place-place.result c.args.word c.requires.free c.requires.place place (omega arith),
)

pub invariant_of-self : goal.invariant_of-self
invariant_of-self c = let h = c.self.invariant in let t = c.store.ensures.2 _ h.0.knows in (IsOperatorSeat-on _ h.0 _ _ _ t, IsSeatAt-on _ _ _ h.1 _ _ _ c.store.ensures.0 t)

pub returns : goal.returns
returns c = let h = c.self.invariant in let t = c.store.ensures.2 _ h.0.knows in
    operator_after _ h.0 _ _ (after_fill (rows_begin the_shape) c.page_place-place.result c.args.word) _ _ c.args.self.now c.self.view_is c.store.ensures.0 t
    ∙ ap (λ (place : ℕ). acts (after_fill (rows_begin the_shape) place c.args.word) c.args.self.now) (c.page_place-place.ensures ∙ page_place_is c.args.page c.args.place)
