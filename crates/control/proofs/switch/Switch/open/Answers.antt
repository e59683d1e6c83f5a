use Rattle.std.proofs.Common.{◌≡◌, ◌∙◌, length, subst, sym}
use Rattle.std.proofs.lemmas.List.{with_items_is}
use Rattle.control.specs.body.Ready.{AreOutside, IsReady}
use Rattle.control.specs.Script.{at_start}
use Rattle.control.proofs.SwitchLemmas.{opened_outside, opened_ready}
use Rattle.control.proofs.switch.Switch.open.Goals as goal

pub meet_all-requires : goal.meet_all-requires
meet_all-requires c = record { outside = subst (AreOutside c.in_ok-operator.operator.table) (sym c.deref_mut.ensures.value) (opened_outside c.in_ok-operator.operator.table _ c.in_ok-operator.workers.items c.in_ok-operator.ensures.workers) }

pub returns : goal.returns
returns c =
    let met = c.meet_all.ensures.met in
    let long : length c.meet_all.new.workers ≡ c.in_ok-operator.workers.len = met.outside.count ∙ sym (c.in_ok-operator.workers.ok.0 ∙ c.in_ok-operator.ensures.workers.count) in
    record {
      ready = subst (λ workers. IsReady c.meet_all.new.operator workers at_start) (sym (with_items_is c.in_ok-operator.workers c.meet_all.new.workers long))
          (opened_ready c.in_ok-operator.operator.table c.new.result c.in_ok-operator.operator c.meet_all.new.operator c.deref_mut.result.now c.meet_all.new.workers c.new.ensures.empty c.in_ok-operator.ensures.opened met);
    }
