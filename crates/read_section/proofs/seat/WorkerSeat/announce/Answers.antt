use Rattle.std.proofs.Common.{ap, refl, subst, sym, ◌+◌, ◌<◌, ◌∙◌}
use Rattle.atomic_table.specs.Seated.{TableId}
use Rattle.versions.specs.View.{after_announce}
use Rattle.read_section.proofs.WorkerSeatLemmas.{IsSeatAt-on, IsWorkerSeat-on, few_words, may_announce, read_word_inside, worker_after}
use Rattle.read_section.proofs.seat.WorkerSeat.announce.Goals as goal

pub read_word_place-requires : goal.read_word_place-requires
read_word_place-requires c = few_words _ _ c.self.invariant.0

pub store-requires : goal.store-requires
store-requires c = let h = c.self.invariant in let shared = c.deref.result.now.shared in let own = h.1.same_table ∙ sym (ap (λ t. t.shared.table_id) c.deref.ensures) in
    rw c.read_word_place.ensures (own, subst (λ (t : TableId). 1 + c.self.inside.number < t.words) own (read_word_inside _ _ _ h.1 c.self.inside.number h.0.below), may_announce _ _ h.0 _ _ shared.key shared.table_id.slots c.self.inside.seat.id c.args.self.now c.self.view_is c.args.version c.requires.peeked)

pub invariant_of-self : goal.invariant_of-self
invariant_of-self c = let h = c.self.invariant in let t = (c.store.ensures.2 _ h.0.knows).1 in (IsWorkerSeat-on _ _ h.0 _ _ _ refl t, IsSeatAt-on _ _ _ h.1 _ _ _ c.store.ensures.0 t)

pub returns : goal.returns
returns c = let h = c.self.invariant in let t = (c.store.ensures.2 _ h.0.knows).1 in worker_after _ _ h.0 _ _ (after_announce (c.args.version + 1)) _ _ c.args.self.now c.self.view_is c.store.ensures.0 t
