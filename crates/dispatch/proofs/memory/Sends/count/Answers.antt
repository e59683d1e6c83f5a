use Rattle.std.proofs.Common.{ap, length, sym, ◌∙◌}
use Rattle.dispatch.specs.Memory.{SendsValue}
use Rattle.dispatch.proofs.MemoryLemmas.{count_of-sent_in}
use Rattle.dispatch.proofs.memory.Sends.count.Goals as goal

pub returns : goal.returns
returns c = record {
  count = c.len.ensures ∙ c.self.inside.extents.ok.0 ∙ (sym (count_of-sent_in c.self.inside.extents.items c.self.inside.bytes.items) ∙ ap (λ (view : SendsValue). length view.sent) c.self.view_is);
}
