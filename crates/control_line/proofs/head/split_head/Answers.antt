use Rattle.control_line.proofs.HeadLemmas.{has_head, no_head}
use Rattle.control_line.proofs.head.split_head.Goals as goal

pub returns-in_err-read_head : goal.returns-in_err-read_head
returns-in_err-read_head c =
    let cut = c.cut_line.ensures in
    rw c.from_residual.ensures (no_head c.args.text.now c.cut_line.result.0.now c.cut_line.result.1.now cut.whole cut.lacks cut.ends_line c.in_err-read_head.ensures)

pub returns : goal.returns
returns c =
    let cut = c.cut_line.ensures in
    has_head c.args.text.now c.cut_line.result.0.now c.cut_line.result.1.now cut.whole cut.lacks cut.ends_line c.in_ok-read_head.field-0 c.in_ok-read_head.ensures.0 c.in_ok-read_head.ensures.1
