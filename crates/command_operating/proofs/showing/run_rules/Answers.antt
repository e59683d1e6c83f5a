use Rattle.std.proofs.Common.{refl}
use Rattle.command_streams.proofs.OutputLemmas.{counts_failure, counts_none, ends_in_failure, ends_unwritten}
use Rattle.command_operating.proofs.PrintingLemmas.{ends_unrefused, no_rules_address, print_fail, print_unrefused, print_unwritten, rules_begun}
use Rattle.command_operating.proofs.showing.run_rules.Goals as goal

pub returns-in_default-clause-failed : goal.returns-in_default-clause-failed
returns-in_default-clause-failed g c = λ is.
    ends_unrefused _ _ _ _ _ _ _ _ c.refuse_address.ensures.beginning (λ whole. no_rules_address c.args.control.now _ whole c.in_default.ensures) (c.refuse_address.ensures.failed is)

pub returns-in_default-clause-device_failed : goal.returns-in_default-clause-device_failed
returns-in_default-clause-device_failed g c =
    ends_unwritten _ _ _ c.refuse_address.result
    (λ is. print_unrefused _ _ _ _ _ _ _ _ c.refuse_address.ensures.beginning (λ whole. no_rules_address c.args.control.now _ whole c.in_default.ensures) (c.refuse_address.ensures.failed is))
    c.refuse_address.ensures.device_failed

pub returns-in-Err-clause-failed : goal.returns-in-Err-clause-failed
returns-in-Err-clause-failed g c = λ is. (
  c.ask_failure.result,
  print_fail _ _ _ g.W.CountedWrite.contents c.args.out.now c.args.out.now _ _ c.ask_failure.result (c.in-Some.address, c.in-Some.ensures, c.ask_failure.ensures.fault) (λ other. refl)
      (λ unwritten. absurd (c.ask_failure.ensures.no_output unwritten)) c.report.ensures.told,
)

pub returns-in-Err-clause-device_failed : goal.returns-in-Err-clause-device_failed
returns-in-Err-clause-device_failed g c =
    ends_in_failure _ _ _ c.report.result c.ask_failure.result c.report.ensures.failed
    (print_fail _ _ _ g.W.CountedWrite.contents c.args.out.now c.args.out.now _ _ c.ask_failure.result (c.in-Some.address, c.in-Some.ensures, c.ask_failure.ensures.fault) (λ other. refl)
    (λ unwritten. absurd (c.ask_failure.ensures.no_output unwritten)) c.report.ensures.told)
    (counts_none c.ask_failure.result _ _ c.ask_failure.ensures.no_output refl)

pub returns-clause-failed : goal.returns-clause-failed
returns-clause-failed g c = λ is. (
  c.in-Err-write_through.failure,
  print_unwritten _ _ _ _ _ _ _ c.in-Err-write_through.failure c.in-Err-write_through.ensures.failed
      (rules_begun _ c.in-Some.address c.in-Ok.text.items _ _ c.in-Some.ensures c.in-Ok.ensures (rw c.deref.ensures.value at c.write_through.ensures.beginning))
      c.report-in-Err-write_through.ensures.told,
)

pub returns-clause-device_failed : goal.returns-clause-device_failed
returns-clause-device_failed g c =
    ends_in_failure _ _ _ c.report-in-Err-write_through.result c.in-Err-write_through.failure c.report-in-Err-write_through.ensures.failed
    (print_unwritten _ _ _ _ _ _ _ c.in-Err-write_through.failure c.in-Err-write_through.ensures.failed
    (rules_begun _ c.in-Some.address c.in-Ok.text.items _ _ c.in-Some.ensures c.in-Ok.ensures (rw c.deref.ensures.value at c.write_through.ensures.beginning))
    c.report-in-Err-write_through.ensures.told)
    (counts_failure (Unit {0}) c.in-Err-write_through.failure _ _ c.in-Err-write_through.ensures.device_failed)
