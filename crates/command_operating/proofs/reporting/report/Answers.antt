use Rattle.std.proofs.Common.{Option, ap, is_some, subst}
use Rattle.control_client.specs.declared.trouble.Trouble.{Trouble}
use Rattle.command_line.specs.Ending.{AppendsBeginning, line_of}
use Rattle.command_operating.specs.Reported.{told_alone}
use Rattle.command_operating.proofs.ReportLemmas.{told_of_path}
use Rattle.command_operating.proofs.reporting.report.Goals as goal
use Rattle.command_operating.proofs.reporting.report.Goals.{in-Some, in_default}

pub returns-clause-told : goal.returns-clause-told
returns-clause-told g c =
    let before = g.E.Write.contents c.args.errs.now in let after = g.E.Write.contents c.report.new.errs in let told = c.report.ensures.told in
    elim c.match-trouble_behind.branch [
      | in-Some w ↦ (
          let shown = w.show_trouble.ensures in let why = c.trouble_behind.ensures (ap (λ (told : Option Trouble). is_some told) w.in-Some.is) in
          told_of_path c.args.control.now c.args.reach.address c.args.failure w.in-Some.trouble shown.0 before (g.E.Write.contents w.show_trouble.new.errs) after c.requires why.1 why.0 shown.1 shown.2
          (subst (λ errs. AppendsBeginning (g.E.Write.contents errs) after (line_of c.args.failure)) w.errs-is told)
          )
      | in_default w ↦ told_alone (subst (λ errs. AppendsBeginning (g.E.Write.contents errs) after (line_of c.args.failure)) w.errs-is told)
    ]
