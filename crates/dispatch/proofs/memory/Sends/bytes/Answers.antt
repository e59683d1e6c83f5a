use Rattle.std.proofs.Common.{ap, flat_map, sym, ◌∙◌}
use Rattle.dispatch.specs.Device.{Sent}
use Rattle.dispatch.specs.Memory.{SendsValue}
use Rattle.dispatch.proofs.MemoryLemmas.{bytes_of-sent_in}
use Rattle.dispatch.proofs.memory.Sends.bytes.Goals as goal

pub returns : goal.returns
returns c = record {
  bytes = c.deref.ensures.value
      ∙ (sym (bytes_of-sent_in c.self.inside.extents.items c.self.inside.bytes.items c.self.invariant)
      ∙ ap (λ (view : SendsValue). flat_map (λ (sent : Sent). sent.bytes) view.sent) c.self.view_is);
}
