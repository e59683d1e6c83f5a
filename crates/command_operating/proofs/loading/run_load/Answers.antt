use Rattle.std.proofs.Common.{inr, refl}
use Rattle.control_client.specs.Wire.{peer_of}
use Rattle.command_operating.specs.Showing.{file_refused}
use Rattle.command_operating.proofs.CauseLemmas.{once_as, refuses_once}
use Rattle.command_operating.proofs.LoadingLemmas.{ends_asked, fail_changes, fail_replacing, fail_unread, may_read, refuses_change, refuses_switch, replaces, shows}
use Rattle.command_operating.proofs.PrintingLemmas.{ends_unrefused, print_unrefused}
use Rattle.command_operating.proofs.ShowingLemmas.{is_switch}
use Rattle.command_operating.proofs.loading.run_load.Goals as goal

pub returns-then-loading-clause-done : goal.returns-then-loading-clause-done
returns-then-loading-clause-done g c = rw c.if-loading.true c.check_file.ensures.done

pub returns-then-loading-clause-refused : goal.returns-then-loading-clause-refused
returns-then-loading-clause-refused g c = rw c.if-loading.true c.check_file.ensures.refused

pub returns-then-loading-clause-failed : goal.returns-then-loading-clause-failed
returns-then-loading-clause-failed g c = rw c.if-loading.true c.check_file.ensures.failed

pub returns-then-loading-clause-device_failed : goal.returns-then-loading-clause-device_failed
returns-then-loading-clause-device_failed g c = rw c.if-loading.true c.check_file.ensures.device_failed

pub returns-in_default-clause-refused : goal.returns-in_default-clause-refused
returns-in_default-clause-refused g c = λ is. refuses_switch _ _ _ _ _ _ c.if-loading.false c.in_default.ensures (c.refuse_address.ensures.refused is)

pub returns-in_default-clause-failed : goal.returns-in_default-clause-failed
returns-in_default-clause-failed g c = λ is.
    ends_unrefused _ _ _ _ _ _ _ _ c.refuse_address.ensures.beginning
    (λ whole written. inr (refuses_switch _ _ _ _ _ _ c.if-loading.false c.in_default.ensures written)) (c.refuse_address.ensures.failed is)

pub returns-in_default-clause-device_failed : goal.returns-in_default-clause-device_failed
returns-in_default-clause-device_failed g c =
    refuses_once _ _ _ _ _ c.refuse_address.result refl
    (λ is.
    print_unrefused _ _ _ _ _ _ _ _ c.refuse_address.ensures.beginning
    (λ whole written. inr (refuses_switch _ _ _ _ _ _ c.if-loading.false c.in_default.ensures written)) (c.refuse_address.ensures.failed is))
    c.refuse_address.ensures.device_failed

pub returns-in-Err-clause-refused : goal.returns-in-Err-clause-refused
returns-in-Err-clause-refused g c = λ is. file_refused _ _ (c.in-Err.ensures.refused is)

pub returns-in-Err-clause-failed : goal.returns-in-Err-clause-failed
returns-in-Err-clause-failed g c = λ is.
    let unread = c.in-Err.ensures.failed is in
    (unread.0, fail_unread _ _ _ _ _ _ _ _ (may_read _ _ c.in-Some.control.now c.in-Some.address c.in-Some.ensures c.if-loading.false) unread.0 unread.1)

pub returns-in-Err-clause-device_failed : goal.returns-in-Err-clause-device_failed
returns-in-Err-clause-device_failed g c =
    once_as _ _ _ _ _ _ c.in-Err.status
    (fail_unread _ _ _ _ _ _ _ _ (may_read _ _ c.in-Some.control.now c.in-Some.address c.in-Some.ensures c.if-loading.false)) c.in-Err.ensures.device_failed

pub returns-then-loading-2-clause-done : goal.returns-then-loading-2-clause-done
returns-then-loading-2-clause-done g c =
    let done = rw c.in-Ok.ensures.unwritten at c.show_changes.ensures.done in
    λ is.
    shows _ _ _ _ _ _ c.if-loading.false (peer_of c.in-Some.address) (is_switch _ _ c.in-Some.address c.in-Some.ensures) c.in-Ok.file.text.items c.in-Ok.file.config
    c.in-Ok.ensures.whole c.in-Ok.ensures.of_text c.if-loading-2.true (done is)

pub returns-then-loading-2-clause-failed : goal.returns-then-loading-2-clause-failed
returns-then-loading-2-clause-failed g c =
    let failed = rw c.in-Ok.ensures.unwritten at c.show_changes.ensures.failed in
    let told = rw c.in-Ok.ensures.no_errors at failed in
    λ is.
    let ended = told is in (
      ended.0,
      fail_changes _ _ _ _ _ _ _ _ c.in-Some.control.now c.in-Some.address c.in-Some.ensures c.if-loading.false c.in-Ok.file.text.items c.in-Ok.file.config
          c.in-Ok.ensures.whole c.in-Ok.ensures.of_text c.if-loading-2.true ended.0 ended.1,
    )

pub returns-then-loading-2-clause-device_failed : goal.returns-then-loading-2-clause-device_failed
returns-then-loading-2-clause-device_failed g c =
    let ends = rw c.in-Ok.ensures.unwritten at c.show_changes.ensures.device_failed in
    let told = rw c.in-Ok.ensures.no_errors at ends in
    ends_asked _ _ c.show_changes.result _ _ _ _
    (fail_changes _ _ _ _ _ _ _ _ c.in-Some.control.now c.in-Some.address c.in-Some.ensures c.if-loading.false c.in-Ok.file.text.items c.in-Ok.file.config
    c.in-Ok.ensures.whole c.in-Ok.ensures.of_text c.if-loading-2.true)
    c.in-Ok.ensures.none_failed told

pub returns-clause-done : goal.returns-clause-done
returns-clause-done g c =
    let printed = rw c.in-Ok.ensures.unwritten at c.replace.ensures.printed in
    replaces _ _ _ _ _ _ c.if-loading.false (peer_of c.in-Some.address) (is_switch _ _ c.in-Some.address c.in-Some.ensures) c.in-Ok.file.text.items c.in-Ok.file.config
    c.in-Ok.ensures.whole c.in-Ok.ensures.of_text c.if-loading-2.false c.replace.result printed

pub returns-clause-refused : goal.returns-clause-refused
returns-clause-refused g c =
    let printed = rw c.in-Ok.ensures.unwritten at c.replace.ensures.printed in
    refuses_change _ _ _ _ _ _ c.if-loading.false (peer_of c.in-Some.address) (is_switch _ _ c.in-Some.address c.in-Some.ensures) c.in-Ok.file.text.items c.in-Ok.file.config
    c.in-Ok.ensures.whole c.in-Ok.ensures.of_text c.if-loading-2.false c.replace.result printed

pub returns-clause-failed : goal.returns-clause-failed
returns-clause-failed g c =
    let failed = rw c.in-Ok.ensures.unwritten at c.replace.ensures.failed in
    let told = rw c.in-Ok.ensures.no_errors at failed in
    λ is.
    let ended = told is in (
      ended.0,
      fail_replacing _ _ _ _ _ _ _ _ c.in-Some.control.now c.in-Some.address c.in-Some.ensures c.if-loading.false c.in-Ok.file.text.items c.in-Ok.file.config
          c.in-Ok.ensures.whole c.in-Ok.ensures.of_text c.if-loading-2.false ended.0 ended.1,
    )

pub returns-clause-device_failed : goal.returns-clause-device_failed
returns-clause-device_failed g c =
    let ends = rw c.in-Ok.ensures.unwritten at c.replace.ensures.device_failed in
    let told = rw c.in-Ok.ensures.no_errors at ends in
    ends_asked _ _ c.replace.result _ _ _ _
    (fail_replacing _ _ _ _ _ _ _ _ c.in-Some.control.now c.in-Some.address c.in-Some.ensures c.if-loading.false c.in-Ok.file.text.items c.in-Ok.file.config
    c.in-Ok.ensures.whole c.in-Ok.ensures.of_text c.if-loading-2.false)
    c.in-Ok.ensures.none_failed told
