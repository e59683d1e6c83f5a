use Rattle.control_summary.proofs.LineLemmas.{at_start}
use Rattle.control_summary.proofs.counted.Counted.new.Goals as goal

pub returns : goal.returns
returns c = rw (c.new.ensures.items, c.new-2.ensures.items) at_start
