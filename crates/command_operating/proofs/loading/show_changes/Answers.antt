use Rattle.command_operating.proofs.CauseLemmas.{reported_once}
use Rattle.command_operating.proofs.PrintingLemmas.{fault_unread, print_ended, print_fails}
use Rattle.command_operating.proofs.ShowingLemmas.{done_is_good, good_never_failed}
use Rattle.command_operating.proofs.loading.show_changes.Goals as goal

pub returns-clause-failed : goal.returns-clause-failed
returns-clause-failed g c =
    print_ended _ _ _ g.W.CountedWrite.contents c.args.out.now c.print_changes-ended.new.out _ _ c.print_changes-ended.result c.reported.result c.reported.ensures.status
    (done_is_good c.print_changes-ended.result c.print_changes-ended.ensures.done)
    (print_fails _ _ _ g.W.CountedWrite.contents c.args.out.now c.print_changes-ended.new.out _ _ c.print_changes-ended.result c.print_changes-ended.ensures.fault
    c.print_changes-ended.ensures.unwritten c.print_changes-ended.ensures.begun c.reported.ensures.told)

pub returns-clause-device_failed : goal.returns-clause-device_failed
returns-clause-device_failed g c =
    reported_once _ _ _ c.print_changes-ended.result c.reported.result c.reported.ensures.status c.reported.ensures.failed
    (print_fails _ _ _ g.W.CountedWrite.contents c.args.out.now c.print_changes-ended.new.out _ _ c.print_changes-ended.result c.print_changes-ended.ensures.fault
    c.print_changes-ended.ensures.unwritten c.print_changes-ended.ensures.begun c.reported.ensures.told)
    (good_never_failed c.print_changes-ended.result (done_is_good c.print_changes-ended.result c.print_changes-ended.ensures.done)) c.print_changes-ended.ensures.device_failed
    (fault_unread c.args.asked.1.address c.print_changes-ended.result c.print_changes-ended.ensures.fault)
