use Rattle.std.proofs.Common.{ap, refl, subst, sym, ◌<◌, ◌∙◌}
use Rattle.atomic_table.specs.Seated.{TableId}
use Rattle.versions.specs.View.{after_pin}
use Rattle.versions.specs.Table.{the_shape}
use Rattle.read_section.proofs.WorkerSeatLemmas.{IsSeatAt-on, IsWorkerSeat-on, KeepsPages-told, may_pin, sees, some_word, worker_after}
use Rattle.read_section.proofs.seat.WorkerSeat.pin.Goals as goal

pub load-requires : goal.load-requires
load-requires c = let h = c.self.invariant in let shared = c.deref.result.now.shared in let own = h.1.same_table ∙ sym (ap (λ t. t.shared.table_id) c.deref.ensures) in
    (own, subst (λ (t : TableId). 0 < t.words) own (some_word _ _ _ h.1), may_pin _ _ h.0 _ _ shared.key shared.table_id.slots c.self.inside.seat.id c.args.self.now c.self.view_is c.requires.0 c.requires.1)

pub invariant_of-self : goal.invariant_of-self
invariant_of-self c = let h = c.self.invariant in let t = (c.load.ensures.2 _ h.0.knows).1 in (IsWorkerSeat-on _ _ h.0 _ _ _ refl t.4, IsSeatAt-on _ _ _ h.1 _ _ _ c.load.ensures.0 t.4)

pub returns : goal.returns
returns c = let h = c.self.invariant in let t = (c.load.ensures.2 _ h.0.knows).1 in
    (t.0, t.1, sees _ _ h.0 _ t.0 c.load.result c.args.self.now c.self.view_is t.2, KeepsPages-told _ _ h.0 _ t.1 c.load.result c.args.self.now c.self.view_is t.3, worker_after _ _ h.0 _ _ (after_pin the_shape.rows c.load.result t.0 t.1) _ _ c.args.self.now c.self.view_is c.load.ensures.0 t.4)
