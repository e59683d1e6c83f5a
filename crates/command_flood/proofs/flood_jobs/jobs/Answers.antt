use Rattle.std.proofs.Common.{◌∙◌, ◌+◌, ◌++◌, ◌∷◌, List, None, Some, [], ap, arith, length, map, subst, sym, ℕ, rules}
use Rattle.std.proofs.lemmas.List.{map-append}
use Rattle.std.proofs.lemmas.List.Elements.{All-pop, All-push, All-same}
use Rattle.dispatch.specs.Device.{SourceValue}
use Rattle.dispatch.specs.Counted.{IsNew, IsNewWorker}
use Rattle.command_flood.specs.Flood.{AreStartsOf, HasRoom}
use Rattle.command_flood.specs.FloodVersions.{opening_version}
use Rattle.command_flood.specs.body.Jobs.{FloodJob}
use Rattle.command_flood.proofs.FloodLemmas.{start_of, starts_more}
use Rattle.command_flood.proofs.flood_jobs.jobs.Goals as goal

pub loop-place-preserved : goal.loop-place-preserved
loop-place-preserved c =
    let before = c.loop-place.invariant in let place = c.loop-place.place in
    let job : FloodJob = c.in_ok-job.field-0 in let made = c.in_ok-job.ensures in
    let jobs : List FloodJob = c.loop-place.jobs.items in let pushed = c.in_ok-push.ensures in
    let many = pushed.len in let worker = c.in-Some-Some.ensures.cases in let counter = c.in-Some-Some.ensures'.cases in
    let had = before.0 in let seats = before.1 in let counters = before.2 in (
      omega arith,
      omega arith,
      omega arith,
      All-same (λ (j : FloodJob). HasRoom (length j.buffer.items) j.limit) c.push.new.self.items (jobs ++ job ∷ []) pushed.items
          (All-push (λ (j : FloodJob). HasRoom (length j.buffer.items) j.limit) jobs job before.3 made.room),
      subst (AreStartsOf c.args.workers c.args.datagrams (place + 1)) (sym (ap (map start_of) pushed.items ∙ map-append start_of jobs (job ∷ [])))
          (starts_more c.args.workers c.args.datagrams place (map start_of jobs) (start_of job) before.4
          (ap (λ (d : List (List ℕ)). let value : SourceValue = record { failures = 0; coming = Some d; given = None } in value) made.share) made.empty),
      λ table new.
          let popped = All-pop (IsNew table) c.loop-place.counters.items c.pop-in-loop-place.new.self.items (Some c.in-Some-Some.counter) c.in-Some-Some.ensures'.items (before.5 table new).0 in (
            popped.0,
            All-same (λ (j : FloodJob). IsNew table j.counter) c.push.new.self.items (jobs ++ job ∷ []) pushed.items
                (All-push (λ (j : FloodJob). IsNew table j.counter) jobs job (before.5 table new).1 (made.counter ∙ popped.1)),
          ),
      λ versions new.
          let popped = All-pop (IsNewWorker opening_version versions) c.loop-place.seats.items c.pop.new.self.items (Some c.in-Some-Some.worker) c.in-Some-Some.ensures.items (before.6 versions new).0 in (
            popped.0,
            All-same (λ (j : FloodJob). IsNewWorker opening_version versions j.worker) c.push.new.self.items (jobs ++ job ∷ []) pushed.items
                (All-push (λ (j : FloodJob). IsNewWorker opening_version versions j.worker) jobs job (before.6 versions new).1 (subst (IsNewWorker opening_version versions) (sym made.worker) popped.1)),
          ),
    )

pub returns-clause-buffers : goal.returns-clause-buffers
returns-clause-buffers c = search rules

pub returns-clause-counters : goal.returns-clause-counters
returns-clause-counters c = search rules

pub returns-clause-left : goal.returns-clause-left
returns-clause-left c = search rules

pub returns-clause-new : goal.returns-clause-new
returns-clause-new c = search rules

pub returns-clause-one_a_worker : goal.returns-clause-one_a_worker
returns-clause-one_a_worker c = search rules

pub returns-clause-starts : goal.returns-clause-starts
returns-clause-starts c = search rules

pub returns-clause-workers : goal.returns-clause-workers
returns-clause-workers c = search rules
