-- Workers that threads give back, in the order of their jobs.
use Rattle.std.proofs.Common.{◌≡◌, ◌++◌, ◌∷◌, List, [], map, subst, sym}
use Rattle.read_section.specs.Worker.{WorkerValue}
use Rattle.bench_threads.specs.declared.threads.Job.{Job}
use Rattle.bench_threads.specs.Made.{AreMade}
use Rattle.bench_threads.specs.Sections.{AreSections}

module _ {H : Type 0} (job_of : H → Job) where
  made-push : (handles : List H) (workers : List WorkerValue) (handle : H) (worker : WorkerValue) → AreMade (map job_of handles) workers
      → AreSections (job_of handle).rounds (job_of handle).worker worker → AreMade (map job_of (handles ++ handle ∷ [])) (workers ++ worker ∷ [])
  made-push [] [] handle worker all one = (one, tt)
  made-push [] (first ∷ workers) handle worker all one = absurd all
  made-push (next ∷ handles) [] handle worker all one = absurd all
  made-push (next ∷ handles) (first ∷ workers) handle worker all one = (all.0, made-push handles workers handle worker all.1 one)

  pub one_more_made : (handles : List H) (workers later : List WorkerValue) (handle : H) (worker : WorkerValue) → later ≡ workers ++ worker ∷ []
      → AreMade (map job_of handles) workers → AreSections (job_of handle).rounds (job_of handle).worker worker
      → AreMade (map job_of (handles ++ handle ∷ [])) later
  one_more_made handles workers later handle worker is all one =
      subst (λ (list : List WorkerValue). AreMade (map job_of (handles ++ handle ∷ [])) list) (sym is) (made-push handles workers handle worker all one)
