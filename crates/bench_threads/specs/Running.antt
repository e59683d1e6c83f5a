-- The effect of the program for a request.
use Rattle.std.specs.Prelude.{◌≡◌, List, Option, is_some, ℕ}
use Rattle.read_section.specs.Worker.{WorkerValue}
use Rattle.bench_threads.specs.declared.request.Request.{Request}
use Rattle.bench_threads.specs.declared.threads.Job.{Job}
use Rattle.bench_threads.specs.Jobs.{AreJobs}
use Rattle.bench_threads.specs.Line.{WritesLine}
use Rattle.bench_threads.specs.Made.{AreMade}

-- each thread made its sections, with the worker of one new table that the placing gives it
pub record IsCarriedOut (request : Request) : Type 0 where
  pub jobs : List Job
  pub workers : List WorkerValue
  pub are_jobs : AreJobs request.placing request.threads request.rounds jobs
  pub made : AreMade jobs workers

-- the request was carried out, and the line that reports it was written, with a time if one is asked for
pub record Tells (request : Request) (before after : Option (List ℕ)) : Type 0 where
  pub carried_out : IsCarriedOut request
  pub nanoseconds : Option ℕ
  pub timed : is_some nanoseconds ≡ request.is_timed
  pub line : WritesLine request nanoseconds before after
