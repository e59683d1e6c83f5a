use Rattle.std.proofs.Common.{rules}
use Rattle.command_waiting.proofs.ServeLemmas.{none_shown}
use Rattle.command_waiting.proofs.serving.show_bind_fault.Goals as goal

pub returns-in_default : goal.returns-in_default
returns-in_default g c = none_shown c.args.fault.now (g.E.Write.contents c.args.errs.now)

pub returns-in-Ok : goal.returns-in-Ok
returns-in-Ok g c = (c.in-Ok.line.items, c.in-Ok.ensures, search rules)
