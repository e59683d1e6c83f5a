use Rattle.std.proofs.Common.{ap, subst, sym, ◌+◌, ◌<◌, ◌∙◌}
use Rattle.atomic_table.specs.Seated.{TableId}
use Rattle.versions.specs.View.{after_scan}
use Rattle.read_section.proofs.OperatorSeatLemmas.{IsOperatorSeat-on, may_scan, operator_after, tells, worker_fits}
use Rattle.read_section.proofs.WorkerSeatLemmas.{IsSeatAt-on, read_word_inside}
use Rattle.read_section.proofs.seat.OperatorSeat.scan.Goals as goal

pub read_word_place-requires : goal.read_word_place-requires
read_word_place-requires c = worker_fits c.args.worker c.requires

pub load-requires : goal.load-requires
load-requires c = let h = c.self.invariant in let shared = c.deref.result.now.shared in let own = h.1.same_table ∙ sym (ap (λ t. t.shared.table_id) c.deref.ensures) in
    rw c.read_word_place.ensures (own, subst (λ (t : TableId). 1 + c.args.worker < t.words) own (read_word_inside _ _ _ h.1 c.args.worker c.requires), may_scan _ h.0 _ _ shared.key shared.table_id.slots c.self.inside.seat.id c.args.self.now c.self.view_is c.args.worker c.requires)

pub invariant_of-self : goal.invariant_of-self
invariant_of-self c = let h = c.self.invariant in let t = c.load.ensures.2 _ h.0.knows c.args.worker c.read_word_place.ensures in (IsOperatorSeat-on _ h.0 _ _ _ t.3, IsSeatAt-on _ _ _ h.1 _ _ _ c.load.ensures.0 t.3)

pub returns : goal.returns
returns c = let h = c.self.invariant in let t = c.load.ensures.2 _ h.0.knows c.args.worker c.read_word_place.ensures in
    (t.0, tells _ h.0 _ c.args.worker c.load.result t.0 c.args.self.now c.self.view_is t.1, operator_after _ h.0 _ _ (after_scan c.args.worker c.load.result t.0) _ _ c.args.self.now c.self.view_is c.load.ensures.0 t.3)
