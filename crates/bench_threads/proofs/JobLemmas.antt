-- Workers that are taken out of a table's, that of the highest number first.
use Rattle.std.proofs.Common.{◌≡◌, ◌∙◌, ◌+◌, ◌-◌, ◌*◌, ◌++◌, ◌∷◌, ◌<◌, ◌≤◌, Err, IfOk, List, Ok, Result, Some, [], ap, arith, length, refl, subst, suc, sym, zero, ℕ}
use Rattle.std.proofs.Math.Nat.{mul-suc}
use Rattle.std.proofs.lemmas.Option.{same_Some, slice_get-get_or, slice_get_within}
use Rattle.std.specs.List.{SameBelow, slice_get}
use Rattle.atomic_table.specs.Seated.{TableId}
use Rattle.read_section.specs.Operator.{AreOpenedWorkers}
use Rattle.read_section.specs.Worker.{WorkerValue}
use Rattle.bench_threads.specs.declared.placing.Placing.{Placing}
use Rattle.bench_threads.specs.declared.threads.Job.{Job}
use Rattle.bench_threads.specs.Jobs.{AreJobs, AreTaken, IsJobOf, opened_worker}
use Rattle.bench_threads.specs.Placing.{number_at}
use Rattle.versions.proofs.WorldLemmas.{slice_get-end}
use borrow.Author.Count.{below_more}

slice_get-push : {X : Type 0} (xs : List X) (x : X) (i : ℕ) → i < length xs → slice_get (xs ++ x ∷ []) i ≡ slice_get xs i
slice_get-push [] x i low = absurd (omega arith)
slice_get-push (y ∷ ys) x zero low = refl
slice_get-push (y ∷ ys) x (suc i) low = slice_get-push ys x i (omega arith)

-- what is taken away at one place leaves the places below it as they are
pub slice_get-below : {X : Type 0} (xs ys : List X) (default : X) (n k : ℕ) → SameBelow xs ys n → n ≤ length xs → n ≤ length ys → k < n → slice_get ys k ≡ slice_get xs k
slice_get-below xs ys default n k same in_xs in_ys low =
    slice_get-get_or ys k default (omega arith) ∙ (ap Some (same k default low) ∙ sym (slice_get-get_or xs k default (omega arith)))

-- what follows from two facts of a value, if there is one
pub IfOk-both : {T E : Type 0} (result : Result T E) (P Q R : T → Type 0) → ((value : T) → P value → Q value → R value) → IfOk result P → IfOk result Q → IfOk result R
IfOk-both (Ok value) P Q R follows p q = follows value p q
IfOk-both (Err fault) P Q R follows p q = tt

-- one more thread is one distance more
pub distance-more : (distance threads thread : ℕ) → thread < threads → distance * (threads - thread) ≡ distance * (threads - (thread + 1)) + distance
distance-more distance threads thread low =
    let one_more : threads - thread ≡ suc (threads - (thread + 1)) = omega arith in
    ap (λ (n : ℕ). distance * n) one_more ∙ mul-suc distance (threads - (thread + 1))

module _ (placing : Placing) (threads rounds : ℕ) (workers : List WorkerValue) where
  pub taken-push : (jobs later : List Job) (job : Job) (thread : ℕ) → length jobs ≡ thread → job.rounds ≡ rounds
      → slice_get workers (number_at placing threads thread) ≡ Some job.worker → later ≡ jobs ++ job ∷ []
      → AreTaken placing threads rounds workers thread jobs → AreTaken placing threads rounds workers (thread + 1) later
  taken-push jobs later job thread counted same_rounds stands is before =
      below_more (IsJobOf placing threads rounds workers later) thread
      (λ k low. let earlier = before k low in
      (earlier.0, earlier.1, ap (λ (all : List Job). slice_get all k) is ∙ (slice_get-push jobs job k (omega arith) ∙ earlier.2))) (
        job.worker,
        stands,
        ap (λ (all : List Job). slice_get all thread) is
            ∙ (subst (λ (n : ℕ). slice_get (jobs ++ job ∷ []) n ≡ Some job) counted (slice_get-end jobs job)
            ∙ ap (λ (n : ℕ). let with_rounds : Job = record { worker = job.worker; rounds = n } in Some with_rounds) same_rounds),
      )

  -- jobs of the workers of a new table
  pub jobs-opened : (table : TableId) (jobs : List Job) → AreOpenedWorkers table [] workers → length jobs ≡ threads
      → AreTaken placing threads rounds workers threads jobs → AreJobs placing threads rounds jobs
  jobs-opened table jobs opened counted taken = record {
    table = table;
    count = counted;
    each = λ thread low. let mine = taken thread low in let number = number_at placing threads thread in
        let inside : number < length workers = slice_get_within workers number mine.0 mine.1 in
        mine.2 ∙ ap (λ (worker : WorkerValue). let job : Job = record { worker = worker; rounds = rounds } in Some job)
        (same_Some mine.0 (opened_worker table number) (sym mine.1 ∙ opened.each number (omega (arith, opened.count))));
  }
