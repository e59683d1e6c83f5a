-- What the threads of several jobs are started with, and what they return.
use Rattle.std.specs.Prelude.{◌+◌, ◌%◌, ◌^◌, ◌∷◌, List, [], ℕ}

-- what a thread is started with: its job, the number of its first batch, the step from one batch to the next, and what its gate refers to
pub record Begun (J G : Type 0) : Type 0 where
  pub job : J
  pub number : ℕ
  pub step : ℕ
  pub gate : G

abbrev pub begun : {J G : Type 0} → J → ℕ → ℕ → G → Begun J G
begun job number step gate = record { job = job; number = number; step = step; gate = gate }

-- one start a job: the first has this number, and each further one the next, modulo 2^64
abbrev pub numbered : {J H : Type 0} → (J → ℕ → H) → ℕ → List J → List H
numbered start number [] = []
numbered start number (job ∷ jobs) = start job number ∷ numbered start ((number + 1) % 2 ^ 64) jobs

-- there is one result a start, in their order
abbrev pub AreEach : {H D : Type 0} → (H → D → Type 0) → List H → List D → Type 0
AreEach Keeps [] [] = Unit {0}
AreEach Keeps [] (done ∷ dones) = ⊥
AreEach Keeps (start ∷ starts) [] = ⊥
AreEach Keeps (start ∷ starts) (done ∷ dones) = Keeps start done × AreEach Keeps starts dones
