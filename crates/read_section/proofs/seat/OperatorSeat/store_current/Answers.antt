use Rattle.std.proofs.Common.{ap, arith, subst, sym, List, ℕ, ◌%◌, ◌+◌, ◌<◌, ◌≡◌, ◌∙◌}
use Rattle.atomic_table.specs.Seated.{TableId}
use Rattle.config_image.specs.Image.{Group}
use Rattle.versions.specs.declared.view.OperatorView.{OperatorView}
use Rattle.versions.specs.Layout.{current_word, pages_named}
use Rattle.versions.specs.View.{after_proposal, after_publish}
use Rattle.versions.specs.Table.{the_shape}
use Rattle.versions.proofs.ShapeLemmas.{last_number_is}
use Rattle.read_section.specs.Layout.{IsPublishable}
use Rattle.read_section.specs.body.Seat.{HoldsNamed, acts}
use Rattle.read_section.proofs.FilledLemmas.{row_inside}
use Rattle.read_section.proofs.OperatorSeatLemmas.{IsOperatorSeat-on, current_is, may_publish, operator_after, row_of_current}
use Rattle.read_section.proofs.WorkerSeatLemmas.{IsSeatAt-on, some_word}
use Rattle.read_section.proofs.seat.OperatorSeat.store_current.Goals as goal

pub current_word-requires-clause-number : goal.current_word-requires-clause-number
current_word-requires-clause-number g c = let low = c.requires.limited in omega (arith, last_number_is)

pub current_word-requires-clause-row : goal.current_word-requires-clause-row
current_word-requires-clause-row g c = row_inside c.args.row c.requires.free.0

pub store-requires : goal.store-requires
store-requires g c = let h = c.self.invariant in let shared = c.deref.result.now.shared in let own = h.1.same_table ∙ sym (ap (λ t. t.shared.table_id) c.deref.ensures) in let q = c.requires in let new : List Group = g.P.Proposal.config in let same : c.args.config.now ≡ new = sym q.proposal in (
  own,
  subst (λ (t : TableId). 0 < t.words) own (some_word _ _ _ h.1),
  may_publish _ h.0 _ _ shared.key shared.table_id.slots c.self.inside.seat.id c.args.self.now c.self.view_is c.args.row c.args.number c.current_word.result new q.free (subst (HoldsNamed c.args.self.now.view c.args.row) same q.holds)
      (subst IsPublishable same q.publishable) q.number q.limited (c.current_word.ensures ∙ current_is c.args.number c.args.row),
)

pub invariant_of-self : goal.invariant_of-self
invariant_of-self g c = let h = c.self.invariant in let t = (c.store.ensures.2 _ h.0.knows).1 in (IsOperatorSeat-on _ h.0 _ _ _ t, IsSeatAt-on _ _ _ h.1 _ _ _ c.store.ensures.0 t)

pub returns : goal.returns
returns g c = let h = c.self.invariant in let t = (c.store.ensures.2 _ h.0.knows).1 in let x : ℕ = c.current_word.result in let new : List Group = g.P.Proposal.config in
    let put : ℕ → ℕ → List Group → OperatorView (List Group) → OperatorView (List Group) = λ r y k v. after_publish r y (pages_named the_shape v.stored r) (after_proposal k v) in
    operator_after _ h.0 _ _ (put (x % the_shape.rows) x new) _ _ c.args.self.now c.self.view_is c.store.ensures.0 t
    ∙ (ap (λ (r : ℕ). acts (put r x new) c.args.self.now) (ap (λ (y : ℕ). y % the_shape.rows) c.current_word.ensures ∙ row_of_current c.args.number c.args.row c.requires.free.0)
    ∙ (ap (λ (y : ℕ). acts (put c.args.row y new) c.args.self.now) (c.current_word.ensures ∙ current_is c.args.number c.args.row ∙ ap (λ (n : ℕ). current_word the_shape n c.args.row) c.requires.number)
    ∙ ap (λ (k : List Group). acts (put c.args.row (current_word the_shape (Rattle.versions.specs.Free.number_after c.args.self.now.view.log + 1) c.args.row) k) c.args.self.now) c.requires.proposal))
