-- The workers of the threads.
use Rattle.std.specs.Prelude.{◌+◌, ◌-◌, ◌*◌, ◌/◌, min, ℕ}
use Rattle.bench_threads.specs.declared.placing.Placing.{Placing}
use Rattle.bench_threads.specs.declared.placing.Placing.TheVariants.{SideBySide, Spread}
use Rattle.bench_threads.specs.declared.placing.TheConstants.{APART}
use Rattle.versions.specs.declared.layout.TheConstants.{WORKERS}

-- the distance between the numbers of the workers of two neighbouring threads
abbrev pub distance : Placing → ℕ → ℕ
distance Spread threads = min APART (WORKERS / threads)
distance SideBySide threads = 1

-- the number of workers at the beginning that are left out before the rest is counted off; of each `distance` workers after them
-- a thread has the last
abbrev pub passed_over : Placing → ℕ → ℕ
passed_over Spread threads = 0
passed_over SideBySide threads = WORKERS - threads

-- the number of a thread's worker, counted from 0 as threads are; the first thread has the highest
abbrev pub number_at : Placing → ℕ → ℕ → ℕ
number_at placing threads thread = passed_over placing threads + distance placing threads * (threads - thread) - 1
