-- Results in the order of their jobs.
use Rattle.std.proofs.Common.{List, ap, map, refl, subst, sym, ◌≡◌, ◌+◌, ◌%◌, ◌^◌, ◌++◌, ◌∷◌, [], ℕ}
use Rattle.dispatch.specs.declared.device.Outbox as Outbox
use Rattle.dispatch.specs.declared.device.Source as Source
use Rattle.dispatch.specs.declared.worker_job.Done.{Done}
use Rattle.dispatch.specs.declared.worker_job.Job.{Job}
use Rattle.dispatch.specs.Job.{GateEvent}
use Rattle.dispatch.specs.Workers.{AreDone, AreGatedDone, IsDone, IsGatedDone}
use Rattle.dispatch.specs.body.Starts.{AreEach, numbered}

module _ {H X D : Type 0} (Keeps : X → D → Type 0) (start_of : H → X) where
  one_more : (handles : List H) (dones : List D) (handle : H) (done : D) → AreEach Keeps (map start_of handles) dones
      → Keeps (start_of handle) done → AreEach Keeps (map start_of (handles ++ handle ∷ [])) (dones ++ done ∷ [])
  one_more [] [] handle done all one = (one, tt)
  one_more [] (first ∷ dones) handle done all one = absurd all
  one_more (next ∷ handles) [] handle done all one = absurd all
  one_more (next ∷ handles) (first ∷ dones) handle done all one = (all.0, one_more handles dones handle done all.1 one)

  pub one_more_done : (handles : List H) (dones later : List D) (handle : H) (done : D) → later ≡ dones ++ done ∷ []
      → AreEach Keeps (map start_of handles) dones → Keeps (start_of handle) done → AreEach Keeps (map start_of (handles ++ handle ∷ [])) later
  one_more_done handles dones later handle done is all one =
      subst (λ (list : List D). AreEach Keeps (map start_of (handles ++ handle ∷ [])) list) (sym is) (one_more handles dones handle done all one)

module _ {X X' D : Type 0} (Keeps : X → D → Type 0) (Keeps' : X' → D → Type 0) where
  pub each_by : {H : Type 0} (f : H → X) (f' : H → X') → ((handle : H) (done : D) → Keeps (f handle) done → Keeps' (f' handle) done) → (handles : List H) (dones : List D)
      → AreEach Keeps (map f handles) dones → AreEach Keeps' (map f' handles) dones
  each_by f f' by [] [] all = tt
  each_by f f' by [] (done ∷ dones) all = absurd all
  each_by f f' by (handle ∷ handles) [] all = absurd all
  each_by f f' by (handle ∷ handles) (done ∷ dones) all = (by handle done all.0, each_by f f' by handles dones all.1)

-- the number of the job after these
abbrev pub number_after : {J : Type 0} → ℕ → List J → ℕ
number_after number [] = number
number_after number (job ∷ jobs) = number_after ((number + 1) % 2 ^ 64) jobs

pub one_more_number : {J : Type 0} (number : ℕ) (jobs : List J) (job : J) → number_after number (jobs ++ job ∷ []) ≡ (number_after number jobs + 1) % 2 ^ 64
one_more_number number [] job = refl
one_more_number number (first ∷ jobs) job = one_more_number ((number + 1) % 2 ^ 64) jobs job

pub one_more_numbered : {J H : Type 0} (start : J → ℕ → H) (number : ℕ) (jobs : List J) (job : J)
    → numbered start number (jobs ++ job ∷ []) ≡ numbered start number jobs ++ start job (number_after number jobs) ∷ []
one_more_numbered start number [] job = refl
one_more_numbered start number (first ∷ jobs) job = ap (λ rest. start first number ∷ rest) (one_more_numbered start ((number + 1) % 2 ^ 64) jobs job)

module _ {S O H : Type 0} (source : Source.Ghosts S) (outbox : Outbox.Ghosts O) (called : GateEvent → Type 0) (step : ℕ) (start : Job S O source outbox → ℕ → H)
    (Keeps : H → Done S O → Type 0)
    (keeps : (number : ℕ) (job : Job S O source outbox) (done : Done S O) → Keeps (start job number) done
    → IsDone source outbox job done × IsGatedDone source outbox called step number job done) where
  pub jobs_done : (number : ℕ) (jobs : List (Job S O source outbox)) (dones : List (Done S O)) → AreEach Keeps (numbered start number jobs) dones → AreDone source outbox jobs dones
  jobs_done number [] [] all = tt
  jobs_done number [] (done ∷ dones) all = absurd all
  jobs_done number (job ∷ jobs) [] all = absurd all
  jobs_done number (job ∷ jobs) (done ∷ dones) all = ((keeps number job done all.0).0, jobs_done ((number + 1) % 2 ^ 64) jobs dones all.1)

  pub jobs_gated : (number : ℕ) (jobs : List (Job S O source outbox)) (dones : List (Done S O)) → AreEach Keeps (numbered start number jobs) dones
      → AreGatedDone source outbox called step number jobs dones
  jobs_gated number [] [] all = tt
  jobs_gated number [] (done ∷ dones) all = absurd all
  jobs_gated number (job ∷ jobs) [] all = absurd all
  jobs_gated number (job ∷ jobs) (done ∷ dones) all = ((keeps number job done all.0).1, jobs_gated ((number + 1) % 2 ^ 64) jobs dones all.1)
