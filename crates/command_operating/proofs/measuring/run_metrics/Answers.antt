use Rattle.std.proofs.Common.{inl, inr, refl}
use Rattle.command_operating.proofs.CauseLemmas.{refuses_once}
use Rattle.command_operating.proofs.MeasuringLemmas.{ends_by_table, fail_measuring, writes_metrics}
use Rattle.command_operating.proofs.PrintingLemmas.{ends_unrefused, print_unrefused}
use Rattle.command_operating.proofs.measuring.run_metrics.Goals as goal

pub returns-in_default-clause-failed : goal.returns-in_default-clause-failed
returns-in_default-clause-failed g c = λ is.
    ends_unrefused _ _ _ _ _ _ _ _ c.refuse_address.ensures.beginning (λ whole written. inr (inl c.in_default.ensures, written)) (c.refuse_address.ensures.failed is)

pub returns-in_default-front_of-clause-failed : goal.returns-in_default-front_of-clause-failed
returns-in_default-front_of-clause-failed g c = λ is.
    ends_unrefused _ _ _ _ _ _ _ _ c.refuse_address-in_default-front_of.ensures.beginning (λ whole written. inr (inr c.in_default-front_of.ensures, written))
    (c.refuse_address-in_default-front_of.ensures.failed is)

pub returns-in_default-clause-device_failed : goal.returns-in_default-clause-device_failed
returns-in_default-clause-device_failed g c =
    inl
    (refuses_once _ _ _ _ _ c.refuse_address.result refl
    (λ is.
    print_unrefused _ _ _ _ _ _ _ _ c.refuse_address.ensures.beginning (λ whole written. inr (inl c.in_default.ensures, written)) (c.refuse_address.ensures.failed is))
    c.refuse_address.ensures.device_failed)

pub returns-in_default-front_of-clause-device_failed : goal.returns-in_default-front_of-clause-device_failed
returns-in_default-front_of-clause-device_failed g c =
    let refused = c.refuse_address-in_default-front_of in
    inl
    (refuses_once _ _ _ _ _ refused.result refl
    (λ is. print_unrefused _ _ _ _ _ _ _ _ refused.ensures.beginning (λ whole written. inr (inr c.in_default-front_of.ensures, written)) (refused.ensures.failed is))
    refused.ensures.device_failed)

pub returns-in-Ok-print_metrics-clause-done : goal.returns-in-Ok-print_metrics-clause-done
returns-in-Ok-print_metrics-clause-done g c = λ is.
    writes_metrics c.args.addresses.0.now _ c.in-Some.address _ c.in-Ok.front _ _ c.in-Some.ensures c.in-Ok.ensures c.in-Ok-print_metrics.ensures.printed

pub returns-in-Err-clause-failed : goal.returns-in-Err-clause-failed
returns-in-Err-clause-failed g c = λ is. (
  c.in-Err.failure,
  fail_measuring c.args.addresses.0.now _ c.in-Some.address _ c.in-Ok.front g.W.CountedWrite.contents c.args.out.now c.print_metrics.new.out _ _ c.in-Some.ensures
      c.in-Ok.ensures c.in-Err.failure c.in-Err.ensures.fault c.in-Err.ensures.unwritten c.in-Err.ensures.begun c.report.ensures.told,
)

pub returns-in-Err-clause-device_failed : goal.returns-in-Err-clause-device_failed
returns-in-Err-clause-device_failed g c =
    ends_by_table _ _ _ c.in-Ok.front c.report.result c.in-Err.failure _ _ _ _ c.in-Ok.ensures c.report.ensures.failed
    (fail_measuring c.args.addresses.0.now _ c.in-Some.address _ c.in-Ok.front g.W.CountedWrite.contents c.args.out.now c.print_metrics.new.out _ _ c.in-Some.ensures
    c.in-Ok.ensures c.in-Err.failure c.in-Err.ensures.fault c.in-Err.ensures.unwritten c.in-Err.ensures.begun c.report.ensures.told)
    c.in-Err.ensures.input_failed c.in-Err.ensures.device_failed
