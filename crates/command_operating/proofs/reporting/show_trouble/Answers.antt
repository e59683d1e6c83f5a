use Rattle.command_operating.proofs.ReportLemmas.{none_shown}
use Rattle.command_operating.proofs.reporting.show_trouble.Goals as goal

pub returns-in_default : goal.returns-in_default
returns-in_default g c = none_shown c.args.control.now c.args.trouble (g.E.Write.contents c.args.errs.now)
