use Rattle.std.proofs.Common.{refl, rules}
use Rattle.std.proofs.lemmas.Option.{slice_get_read}
use Rattle.serve_devices.proofs.worker_queues.WorkerQueues.arrive.Goals as goal

pub returns-clause-handed_on : goal.returns-clause-handed_on
returns-clause-handed_on g c =
    let at = slice_get_read c.self.inside.queues.items c.self.inside.queues.len c.self.inside.turn c.index_mut.result.now (search rules) c.self.invariant c.index_mut.ensures.value in
    rw (← c.self.view_is) (c.index_mut.result.now, c.arrive.new.self, at, refl, c.arrive.ensures.arrives)
