use Rattle.control_line.specs.Request.{change}
use Rattle.control_line.proofs.request.read_change.Goals as goal

pub returns-in_err-command : goal.returns-in_err-command
returns-in_err-command c = rw c.from_residual.ensures (λ command. c.in_err-command.ensures (change command))
