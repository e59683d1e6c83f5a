use Rattle.std.proofs.Common.{ap, refl, subst, sym, ◌<◌, ◌∙◌}
use Rattle.atomic_table.specs.Seated.{TableId}
use Rattle.versions.specs.View.{after_fetch}
use Rattle.read_section.proofs.WorkerSeatLemmas.{IsSeatAt-on, IsWorkerSeat-on, SeesWord-told, may_fetch, table_words, word_inside, worker_after}
use Rattle.read_section.proofs.seat.WorkerSeat.fetch.Goals as goal

pub load-requires : goal.load-requires
load-requires c = let h = c.self.invariant in let shared = c.deref.result.now.shared in let own = h.1.same_table ∙ sym (ap (λ t. t.shared.table_id) c.deref.ensures) in (
  own,
  subst (λ (t : TableId). c.args.place < t.words) own (word_inside _ _ _ h.1 c.args.place (table_words c.args.place c.requires.within)),
  may_fetch _ _ h.0 _ _ shared.key shared.table_id.slots c.self.inside.seat.id c.args.self.now c.self.view_is c.args.place c.requires.held,
)

pub invariant_of-self : goal.invariant_of-self
invariant_of-self c = let h = c.self.invariant in let t = (c.load.ensures.2 _ h.0.knows).0 in (IsWorkerSeat-on _ _ h.0 _ _ _ refl t, IsSeatAt-on _ _ _ h.1 _ _ _ c.load.ensures.0 t)

pub returns-clause-one_step : goal.returns-clause-one_step
returns-clause-one_step c = let h = c.self.invariant in let t = (c.load.ensures.2 _ h.0.knows).0 in
    worker_after _ _ h.0 _ _ (after_fetch c.args.place c.load.result) _ _ c.args.self.now c.self.view_is c.load.ensures.0 t

pub returns-clause-word : goal.returns-clause-word
returns-clause-word c = let h = c.self.invariant in SeesWord-told _ _ h.0 _ c.args.self.now c.self.view_is c.args.place c.load.result (c.load.ensures.2 _ h.0.knows).1
