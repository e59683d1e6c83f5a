use Rattle.std.proofs.Common.{None, Some, ap, arith, option_map, slice_get, sym, ◌≡◌, ◌∙◌}
use Rattle.std.proofs.lemmas.Grind.{common_steps}
use Rattle.std.proofs.lemmas.Option.{gets}
use Rattle.dispatch.specs.declared.memory.Extent.{Extent}
use Rattle.dispatch.specs.Device.{Sent}
use Rattle.dispatch.specs.Memory.{SendsValue}
use Rattle.dispatch.proofs.MemoryLemmas.{to_of-sent_in}
use Rattle.dispatch.proofs.memory.Sends.to.Goals as goal

pub returns-in_err-get : goal.returns-in_err-get
returns-in_err-get c =
    let past : slice_get c.deref.result.now c.args.i ≡ None = let looked = c.in_err-get.ensures.lookup in grind (arith, common_steps, gets, looked) in
    record {
      to = c.from_residual.ensures ∙ (ap (λ found. option_map (λ (extent : Extent). extent.to) found) (sym past ∙ ap (λ extents. slice_get extents c.args.i) c.deref.ensures.value)
          ∙ (to_of-sent_in c.self.inside.extents.items c.self.inside.bytes.items c.args.i
          ∙ ap (λ (view : SendsValue). option_map (λ (sent : Sent). sent.to) (slice_get view.sent c.args.i)) c.self.view_is));
    }

pub returns : goal.returns
returns c =
    let there : slice_get c.deref.result.now c.args.i ≡ Some c.in_ok-get.field-0.now = let looked = c.in_ok-get.ensures.lookup in grind (arith, common_steps, gets, looked) in
    record {
      to = ap (λ found. option_map (λ (extent : Extent). extent.to) found) (sym there ∙ ap (λ extents. slice_get extents c.args.i) c.deref.ensures.value)
          ∙ (to_of-sent_in c.self.inside.extents.items c.self.inside.bytes.items c.args.i
          ∙ ap (λ (view : SendsValue). option_map (λ (sent : Sent). sent.to) (slice_get view.sent c.args.i)) c.self.view_is);
    }
