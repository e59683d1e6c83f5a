use Rattle.std.proofs.Common.{Result, Some, subst, sym}
use Rattle.std.specs.Prelude.{IfErr}
use Rattle.command_line.specs.declared.ending.Failure.{Failure}
use Rattle.command_line.specs.declared.ending.Status.{Status}
use Rattle.command_operating.specs.Reported.{IsTold}
use Rattle.command_operating.proofs.reporting.reported.Goals as goal

pub returns-in-Err-clause-told : goal.returns-in-Err-clause-told
returns-in-Err-clause-told g c =
    let before = g.E.Write.contents c.args.errs.now in let after = g.E.Write.contents c.report.new.errs in
    subst (λ (ended : Result Status Failure). IfErr ended (λ failure. IsTold (Some c.args.control.now) failure before after)) (sym c.in-Err.is) c.report.ensures.told
