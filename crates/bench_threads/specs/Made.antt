-- The workers that the threads return.
use Rattle.std.specs.Prelude.{◌∷◌, List, []}
use Rattle.read_section.specs.Worker.{WorkerValue}
use Rattle.bench_threads.specs.declared.threads.Job.{Job}
use Rattle.bench_threads.specs.Sections.{AreSections}

-- the worker of each job made its sections, and there is one worker a job, in their order
abbrev pub AreMade : List Job → List WorkerValue → Type 0
AreMade [] [] = Unit {0}
AreMade [] (worker ∷ workers) = ⊥
AreMade (job ∷ jobs) [] = ⊥
AreMade (job ∷ jobs) (worker ∷ workers) = AreSections job.rounds job.worker worker × AreMade jobs workers
