use Rattle.std.proofs.Common.{inl, inr}
use Rattle.command_streams.proofs.OutputLemmas.{ends_reported, ends_unwritten}
use Rattle.command_operating.proofs.PrintingLemmas.{drain_begun, ends_unrefused, may_fail_draining, no_drain_member, print_ended, print_fails, print_unrefused}
use Rattle.command_operating.proofs.ShowingLemmas.{good_never_failed}
use Rattle.command_operating.proofs.draining.run_drain.Goals as goal

pub returns-in_default-clause-failed : goal.returns-in_default-clause-failed
returns-in_default-clause-failed g c = λ is.
    ends_unrefused _ _ _ _ _ _ _ _ c.refuse_address.ensures.beginning (λ whole. no_drain_member _ _ _ _ whole (inl c.in_default.ensures)) (c.refuse_address.ensures.failed is)

pub returns-in_default-named_member-clause-failed : goal.returns-in_default-named_member-clause-failed
returns-in_default-named_member-clause-failed g c = λ is.
    ends_unrefused _ _ _ _ _ _ _ _ c.refuse_address-in_default-named_member.ensures.beginning
    (λ whole. no_drain_member _ _ _ _ whole (inr c.in_default-named_member.ensures)) (c.refuse_address-in_default-named_member.ensures.failed is)

pub returns-in_default-clause-device_failed : goal.returns-in_default-clause-device_failed
returns-in_default-clause-device_failed g c =
    ends_unwritten _ _ _ c.refuse_address.result
    (λ is. print_unrefused _ _ _ _ _ _ _ _ c.refuse_address.ensures.beginning (λ whole. no_drain_member _ _ _ _ whole (inl c.in_default.ensures)) (c.refuse_address.ensures.failed is))
    c.refuse_address.ensures.device_failed

pub returns-in_default-named_member-clause-device_failed : goal.returns-in_default-named_member-clause-device_failed
returns-in_default-named_member-clause-device_failed g c =
    ends_unwritten _ _ _ c.refuse_address-in_default-named_member.result
    (λ is.
    print_unrefused _ _ _ _ _ _ _ _ c.refuse_address-in_default-named_member.ensures.beginning
    (λ whole. no_drain_member _ _ _ _ whole (inr c.in_default-named_member.ensures)) (c.refuse_address-in_default-named_member.ensures.failed is))
    c.refuse_address-in_default-named_member.ensures.device_failed

pub returns-clause-failed : goal.returns-clause-failed
returns-clause-failed g c =
    print_ended _ _ _ g.W.CountedWrite.contents c.args.out.now c.drain_printed-ended.new.out _ _ c.drain_printed-ended.result c.reported.result c.reported.ensures.status
    c.drain_printed-ended.ensures.done_or_refused
    (print_fails _ _ _ g.W.CountedWrite.contents c.args.out.now c.drain_printed-ended.new.out _ _ c.drain_printed-ended.result
    (may_fail_draining _ _ _ c.in-Some.address c.in-Some-named_member.named.0 c.in-Some-named_member.named.1 c.in-Some.ensures c.in-Some-named_member.ensures
    c.drain_printed-ended.result c.drain_printed-ended.ensures.fault)
    c.drain_printed-ended.ensures.unwritten
    (drain_begun _ _ _ c.in-Some.address c.in-Some-named_member.named.0 c.in-Some-named_member.named.1 _ _ c.in-Some.ensures c.in-Some-named_member.ensures
    c.drain_printed-ended.result c.drain_printed-ended.ensures.begun) c.reported.ensures.told)

pub returns-clause-device_failed : goal.returns-clause-device_failed
returns-clause-device_failed g c =
    ends_reported _ _ _ c.drain_printed-ended.result c.reported.result c.reported.ensures.status c.reported.ensures.failed
    (print_fails _ _ _ g.W.CountedWrite.contents c.args.out.now c.drain_printed-ended.new.out _ _ c.drain_printed-ended.result
    (may_fail_draining _ _ _ c.in-Some.address c.in-Some-named_member.named.0 c.in-Some-named_member.named.1 c.in-Some.ensures c.in-Some-named_member.ensures
    c.drain_printed-ended.result c.drain_printed-ended.ensures.fault)
    c.drain_printed-ended.ensures.unwritten
    (drain_begun _ _ _ c.in-Some.address c.in-Some-named_member.named.0 c.in-Some-named_member.named.1 _ _ c.in-Some.ensures c.in-Some-named_member.ensures
    c.drain_printed-ended.result c.drain_printed-ended.ensures.begun) c.reported.ensures.told)
    (good_never_failed c.drain_printed-ended.result c.drain_printed-ended.ensures.done_or_refused) c.drain_printed-ended.ensures.device_failed
