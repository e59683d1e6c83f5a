-- A job whose batches so far were all gone on after.
use Rattle.std.proofs.Common.{◌+◌, ◌%◌, ◌^◌, ◌++◌, ◌∷◌, List, Option, Result, [], append_assoc, subst, sym, ℕ}
use Rattle.std.specs.List.{All}
use Rattle.std.proofs.lemmas.List.Elements.{All-append, All-cons, All-nil}
use Rattle.dispatch.specs.declared.batches.BatchDone.{BatchDone}
use Rattle.dispatch.specs.declared.batches.BatchFault.{BatchFault}
use Rattle.dispatch.specs.Batch.{IsBatch, Parts}
use Rattle.dispatch.specs.Device.{Takes}
use Rattle.dispatch.specs.Job.{EndsWith, GateEvent, GoesOn, IsGatedJob, IsJob, IsNumberedJob, IsToldJob, ended, last_batch, one_batch, runs_to_the_end, started, then_goes_on}
use Rattle.dispatch.proofs.DeviceLemmas.{takes_more, takes_nothing}

-- a numbered job is a job
pub job_of : (room limit step number : ℕ) (before after : Parts) (events : List GateEvent) → IsNumberedJob room limit step number before after events → IsJob room limit before after
job_of room limit step number before after _ (last_batch _ _ _ answer batch ends) = runs_to_the_end before after answer batch ends
job_of room limit step number before after _ (one_batch _ _ mid _ answer events batch on rest) =
    then_goes_on before mid after answer batch on (job_of room limit step ((number + step) % 2 ^ 64) mid after events rest)

-- So far batches were gone on after, the next one has this number, whatever the job does from here is told after what was told, and the gate
-- was called for all that was told.
pub record HasGoneOn (room limit step first number : ℕ) (log log' : Option (List GateEvent)) (Called Now : GateEvent → Type 0) (before mid : Parts) : Type 0 where
  pub events : List GateEvent
  pub logged : Takes log log' events
  pub called : All Called events
  pub same_gate : (event : GateEvent) → Now event → Called event
  pub goes_on : (after : Parts) (later : List GateEvent) → IsNumberedJob room limit step number mid after later → IsNumberedJob room limit step first before after (events ++ later)

-- The gate was called when a batch began and when it ended.
pub record CallsFor (number : ℕ) (Now Later : GateEvent → Type 0) : Type 0 where
  pub begins : Now (started number)
  pub ends : Now (ended number)
  pub same_gate : (event : GateEvent) → Later event → Now event

pub calls_for : (number : ℕ) (Now Between Later : GateEvent → Type 0) → Now (started number) → ((event : GateEvent) → Between event → Now event)
    → Between (ended number) → ((event : GateEvent) → Later event → Between event) → CallsFor number Now Later
calls_for number Now Between Later begins same ends same' =
    record { begins = begins; ends = same (ended number) ends; same_gate = λ event later. same event (same' event later) }

module _ (room limit step : ℕ) where
  pub not_begun : (number : ℕ) (log : Option (List GateEvent)) (Called : GateEvent → Type 0) (before : Parts) → HasGoneOn room limit step number number log log Called Called before before
  not_begun number log Called before =
      record { events = []; logged = takes_nothing log; called = All-nil Called; same_gate = λ event now. now; goes_on = λ after later job. job }

  module _ (first number : ℕ) (log between₀ between log' : Option (List GateEvent)) (Called Now Later : GateEvent → Type 0) (before mid after : Parts)
      (answer : Result BatchDone BatchFault) (earlier : HasGoneOn room limit step first number log between₀ Called Now before mid)
      (starts : Takes between₀ between (started number ∷ [])) (ends : Takes between log' (ended number ∷ [])) (calls : CallsFor number Now Later)
      (batch : IsBatch room limit mid after answer) where
    all_called : All Called (earlier.events ++ started number ∷ ended number ∷ [])
    all_called = All-append Called earlier.events (started number ∷ ended number ∷ []) earlier.called
        (All-cons Called (started number) (ended number ∷ []) (earlier.same_gate (started number) calls.begins)
        (All-cons Called (ended number) [] (earlier.same_gate (ended number) calls.ends) (All-nil Called)))

    pub and_again : GoesOn answer → HasGoneOn room limit step first ((number + step) % 2 ^ 64) log log' Called Later before after
    and_again on = record {
      events = earlier.events ++ started number ∷ ended number ∷ [];
      logged = takes_more log between₀ log' earlier.events (started number ∷ ended number ∷ []) earlier.logged
          (takes_more between₀ between log' (started number ∷ []) (ended number ∷ []) starts ends);
      called = all_called;
      same_gate = λ event later. earlier.same_gate event (calls.same_gate event later);
      goes_on = λ last later job.
          subst (IsNumberedJob room limit step first before last) (sym (append_assoc earlier.events (started number ∷ ended number ∷ []) later))
          (earlier.goes_on last (started number ∷ ended number ∷ later) (one_batch number mid after last answer later batch on job));
    }

    pub is_over : EndsWith answer → IsToldJob room limit step first log log' before after
    is_over over = record {
      events = earlier.events ++ started number ∷ ended number ∷ [];
      logged = takes_more log between₀ log' earlier.events (started number ∷ ended number ∷ []) earlier.logged
          (takes_more between₀ between log' (started number ∷ []) (ended number ∷ []) starts ends);
      job = earlier.goes_on after (started number ∷ ended number ∷ []) (last_batch number mid after answer batch over);
    }

    pub is_gated : EndsWith answer → IsGatedJob Called room limit step first before after
    is_gated over = record {
      events = earlier.events ++ started number ∷ ended number ∷ [];
      job = earlier.goes_on after (started number ∷ ended number ∷ []) (last_batch number mid after answer batch over);
      called = all_called;
    }
