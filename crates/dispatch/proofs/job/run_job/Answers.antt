use Rattle.dispatch.proofs.JobLemmas.{job_of}
use Rattle.dispatch.proofs.job.run_job.Goals as goal

pub returns : goal.returns
returns g c =
    let told = c.run_told_job.ensures.told in record {
      done_by_batches = job_of _ _ _ _ _ _ told.events told.job;
      gate_called = c.run_told_job.ensures.gate_called;
    }
