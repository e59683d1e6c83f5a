use Rattle.command_operating.proofs.CauseLemmas.{reported_once}
use Rattle.command_operating.proofs.LoadingLemmas.{all_begun, ended_replaced}
use Rattle.command_operating.proofs.PrintingLemmas.{fault_unread, print_ended, print_fails}
use Rattle.command_operating.proofs.ShowingLemmas.{good_never_failed, nothing_told, told_from}
use Rattle.command_operating.proofs.loading.replace.Goals as goal

pub returns-clause-printed : goal.returns-clause-printed
returns-clause-printed g c =
    ended_replaced _ _ _ _ _ c.print_replaced-ended.result c.reported.result c.reported.ensures.status c.reported.ensures.failed c.print_replaced-ended.ensures.printed

pub returns-clause-no_errors : goal.returns-clause-no_errors
returns-clause-no_errors g c =
    nothing_told c.args.errs.now c.print_replaced-ended.new.errs c.reported.new.errs c.print_replaced-ended.result c.reported.result c.reported.ensures.status
    c.reported.ensures.untold c.reported.ensures.failed c.print_replaced-ended.ensures.no_errors

pub returns-clause-failed : goal.returns-clause-failed
returns-clause-failed g c =
    print_ended _ _ _ g.W.CountedWrite.contents c.args.out.now c.print_replaced-ended.new.out _ _ c.print_replaced-ended.result c.reported.result c.reported.ensures.status
    c.print_replaced-ended.ensures.done_or_refused
    (print_fails _ _ _ g.W.CountedWrite.contents c.args.out.now c.print_replaced-ended.new.out _ _ c.print_replaced-ended.result c.print_replaced-ended.ensures.fault
    c.print_replaced-ended.ensures.unwritten (all_begun _ _ _ _ _ c.print_replaced-ended.result c.print_replaced-ended.ensures.begun)
    (told_from _ g.E.Write.contents c.args.errs.now c.print_replaced-ended.new.errs _ c.print_replaced-ended.result c.print_replaced-ended.ensures.unshown c.reported.ensures.told))

pub returns-clause-device_failed : goal.returns-clause-device_failed
returns-clause-device_failed g c =
    reported_once _ _ _ c.print_replaced-ended.result c.reported.result c.reported.ensures.status c.reported.ensures.failed
    (print_fails _ _ _ g.W.CountedWrite.contents c.args.out.now c.print_replaced-ended.new.out _ _ c.print_replaced-ended.result c.print_replaced-ended.ensures.fault
    c.print_replaced-ended.ensures.unwritten (all_begun _ _ _ _ _ c.print_replaced-ended.result c.print_replaced-ended.ensures.begun)
    (told_from _ g.E.Write.contents c.args.errs.now c.print_replaced-ended.new.errs _ c.print_replaced-ended.result c.print_replaced-ended.ensures.unshown c.reported.ensures.told))
    (good_never_failed c.print_replaced-ended.result c.print_replaced-ended.ensures.done_or_refused) c.print_replaced-ended.ensures.device_failed
    (fault_unread c.args.asked.1.address c.print_replaced-ended.result c.print_replaced-ended.ensures.fault)
