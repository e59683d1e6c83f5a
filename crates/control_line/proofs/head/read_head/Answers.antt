use Rattle.control_line.proofs.HeadLemmas.{no_head_version}
use Rattle.control_line.proofs.head.read_head.Goals as goal

pub returns-in_err-start-in-Some : goal.returns-in_err-start-in-Some
returns-in_err-start-in-Some c =
    rw c.from_residual-in_err-start-in-Some.ensures (no_head_version c.args.line.now c.in-Some.rest.now c.in-Some.version c.in-Some.ensures.0 c.in-Some.ensures.1 c.in_err-start-in-Some.ensures)
