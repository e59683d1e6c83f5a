use Rattle.control_summary.proofs.SameLemmas.{one_summary}
use Rattle.control_summary.proofs.one_summary.Goals as goal

pub returns : goal.returns
returns c = one_summary
