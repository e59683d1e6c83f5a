-- Jobs that are made one after the other.
use Rattle.std.proofs.Common.{◌≡◌, ◌∙◌, ◌+◌, ◌++◌, ◌∷◌, List, None, Option, Some, [], ap, append_assoc, arith, length, length-append, reverse, subst, sym, ℕ}
use Rattle.std.specs.List.{All}
use Rattle.std.proofs.lemmas.List.{map-append, reverse-append}
use Rattle.std.proofs.lemmas.List.Elements.{All-nil, All-pop, All-push, All-same}
use Rattle.dispatch.specs.Tally.{CounterValue}
use Rattle.dispatch.specs.declared.device.Outbox as Outbox
use Rattle.dispatch.specs.declared.device.Source as Source
use Rattle.dispatch.specs.declared.worker_job.Job.{Job}
use Rattle.dispatch.specs.Counted.{IsNew, IsNewWorker}
use Rattle.read_section.specs.Worker.{WorkerValue}
use Rattle.serve_devices.specs.Devices.{MemberOutboxValue, WorkerSourceValue, new_outbox}
use Rattle.serve_devices.specs.Ingress.{Receive}
use Rattle.serve_udp.specs.Service.{HasRoom}
use Rattle.serve_udp.specs.body.Jobs.{AreMade, AreNewSources, IsNewSource, sources_of}

pub no_source : (past : Option (List Receive)) (sources : List WorkerSourceValue) → sources ≡ [] → AreNewSources past 0 sources
no_source past sources none = (ap length none, All-same (IsNewSource past) sources [] none (All-nil (IsNewSource past)))

pub one_source : (past : Option (List Receive)) (many : ℕ) (sources sources' : List WorkerSourceValue) (source : WorkerSourceValue)
    → sources' ≡ sources ++ source ∷ [] → IsNewSource past source → AreNewSources past many sources → AreNewSources past (many + 1) sources'
one_source past many sources sources' source pushed new all =
    let more = ap length pushed in
    let one = length-append sources (source ∷ []) in
    let before = all.0 in (
      omega (arith, more, one, before),
      All-same (IsNewSource past) sources' (sources ++ source ∷ []) pushed (All-push (IsNewSource past) sources source all.1 new),
    )

module _ {source : Source.Ghosts WorkerSourceValue} {outbox : Outbox.Ghosts MemberOutboxValue} where
  no_job : (P : Job WorkerSourceValue MemberOutboxValue source outbox → Type 0) (jobs : List (Job WorkerSourceValue MemberOutboxValue source outbox)) → jobs ≡ []
      → All P jobs
  no_job P jobs none = All-same P jobs [] none (All-nil P)

  pub none_made : (workers : List WorkerValue) (counters : List CounterValue) (jobs : List (Job WorkerSourceValue MemberOutboxValue source outbox)) → jobs ≡ []
      → AreMade 0 workers workers counters counters jobs
  none_made workers counters jobs none = record {
    job_count = ap length none;
    worker_each = omega arith;
    counter_each = omega arith;
    new_outboxes = no_job (λ job. job.outbox ≡ new_outbox None) jobs none;
    rooms = no_job (λ job. HasRoom (length job.buffer.items) job.limit) jobs none;
    new_workers = λ opening versions new. (new, no_job (λ job. IsNewWorker opening versions job.worker) jobs none);
    new_counters = λ table new. (new, no_job (λ job. IsNew table job.counter) jobs none);
  }

  all_pushed : (P : Job WorkerSourceValue MemberOutboxValue source outbox → Type 0) (jobs jobs' : List (Job WorkerSourceValue MemberOutboxValue source outbox)) (job : Job WorkerSourceValue MemberOutboxValue source outbox) → jobs' ≡ jobs ++ job ∷ []
      → All P jobs → P job → All P jobs'
  all_pushed P jobs jobs' job pushed all holds = All-same P jobs' (jobs ++ job ∷ []) pushed (All-push P jobs job all holds)

  -- one more, of the last worker and the last counter
  pub one_more : (many : ℕ) (workers left : List WorkerValue) (counters counters_left : List CounterValue) (jobs : List (Job WorkerSourceValue MemberOutboxValue source outbox))
      → AreMade many workers left counters counters_left jobs
      → (left' : List WorkerValue) (counters_left' : List CounterValue) (worker : WorkerValue) (counter : CounterValue)
      → left ≡ left' ++ worker ∷ [] → counters_left ≡ counters_left' ++ counter ∷ []
      → (job : Job WorkerSourceValue MemberOutboxValue source outbox) → job.worker ≡ worker → job.counter ≡ counter → job.outbox ≡ new_outbox None
      → HasRoom (length job.buffer.items) job.limit
      → (jobs' : List (Job WorkerSourceValue MemberOutboxValue source outbox)) → jobs' ≡ jobs ++ job ∷ []
      → AreMade (many + 1) workers left' counters counters_left' jobs'
  one_more many workers left counters counters_left jobs made left' counters_left' worker counter taken counted job of_worker of_counter silent room jobs' pushed =
      let job_more = ap length pushed in
      let job_one = length-append jobs (job ∷ []) in
      let worker_less = ap length taken in
      let worker_one = length-append left' (worker ∷ []) in
      let counter_less = ap length counted in
      let counter_one = length-append counters_left' (counter ∷ []) in
      let before = made.job_count in
      let before_workers = made.worker_each in
      let before_counters = made.counter_each in
      record {
        job_count = omega arith;
        worker_each = omega arith;
        counter_each = omega arith;
        new_outboxes = all_pushed (λ j. j.outbox ≡ new_outbox None) jobs jobs' job pushed made.new_outboxes silent;
        rooms = all_pushed (λ j. HasRoom (length j.buffer.items) j.limit) jobs jobs' job pushed made.rooms room;
        new_workers = λ opening versions new.
            let popped = All-pop (IsNewWorker opening versions) left left' (Some worker) taken (made.new_workers opening versions new).0 in (
              popped.0,
              all_pushed (λ j. IsNewWorker opening versions j.worker) jobs jobs' job pushed (made.new_workers opening versions new).1
                  (subst (IsNewWorker opening versions) (sym of_worker) popped.1),
            );
        new_counters = λ table new.
            let popped = All-pop (IsNew table) counters_left counters_left' (Some counter) counted (made.new_counters table new).0 in (
              popped.0,
              all_pushed (λ j. IsNew table j.counter) jobs jobs' job pushed (made.new_counters table new).1 (subst (IsNew table) (sym of_counter) popped.1),
            );
      }

  pub source_added : (jobs jobs' : List (Job WorkerSourceValue MemberOutboxValue source outbox)) (job : Job WorkerSourceValue MemberOutboxValue source outbox)
      → jobs' ≡ jobs ++ job ∷ [] → sources_of jobs' ≡ sources_of jobs ++ job.source ∷ []
  source_added jobs jobs' job pushed =
      ap sources_of pushed ∙ map-append (λ (j : Job WorkerSourceValue MemberOutboxValue source outbox). j.source) jobs (job ∷ [])

  -- one source more was taken from the end
  pub one_source_taken : (sources left left' : List WorkerSourceValue) (taken : WorkerSourceValue) (jobs jobs' : List (Job WorkerSourceValue MemberOutboxValue source outbox))
      → sources ≡ left ++ reverse (sources_of jobs) → left ≡ left' ++ taken ∷ [] → sources_of jobs' ≡ sources_of jobs ++ taken ∷ []
      → sources ≡ left' ++ reverse (sources_of jobs')
  one_source_taken sources left left' taken jobs jobs' before popped pushed =
      before ∙ (ap (λ (l : List WorkerSourceValue). l ++ reverse (sources_of jobs)) popped
      ∙ (append_assoc left' (taken ∷ []) (reverse (sources_of jobs))
      ∙ ap (λ (l : List WorkerSourceValue). left' ++ l) (sym (ap reverse pushed ∙ reverse-append (sources_of jobs) (taken ∷ [])))))
