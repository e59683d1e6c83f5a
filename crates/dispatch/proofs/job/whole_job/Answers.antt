use Rattle.dispatch.proofs.WholeLemmas.{each_judges_all}
use Rattle.dispatch.proofs.job.whole_job.Goals as goal

pub returns : goal.returns
returns c = each_judges_all
