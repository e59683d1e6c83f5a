use Rattle.control.specs.body.Held.{of_head, of_no_head}
use Rattle.control.proofs.held.lines_after.Goals as goal

pub returns-in-Some : goal.returns-in-Some
returns-in-Some c = of_head c.in-Some.head c.in-Some.ensures.0 c.in-Some.ensures.1

pub returns-in-None : goal.returns-in-None
returns-in-None c = of_no_head c.in-None.ensures
