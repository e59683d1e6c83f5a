use Rattle.std.proofs.Common.{◌∙◌, ◌++◌, List, ap, map, sym, rules}
use Rattle.std.specs.Prelude.{vec_len}
use Rattle.dispatch.specs.Tally.{CounterValue}
use Rattle.dispatch.specs.Workers.{parts_of_done}
use Rattle.dispatch.proofs.CountedLemmas.{counters_of_ends, ends_of, gated_of}
use Rattle.dispatch.proofs.counted_jobs.run_counted.Goals as goal

pub returns-clause-counters_back : goal.returns-clause-counters_back
returns-clause-counters_back g c =
    let source = g.S.Source in let outbox = g.O.Outbox in let dones = c.in_ok-dones.dones.items in
    let kept = ap (λ (all : List CounterValue). all ++ map (λ done. done.counter) dones) c.in-Ok.ensures.items in record {
      ends = map (parts_of_done source outbox) dones;
      run_to_the_end = ends_of source outbox c.args.jobs.items dones c.in_ok-dones.ensures.done_by_batches;
      counters_back = c.take_back.ensures.counters ∙ (kept ∙ ap (λ (later : List CounterValue). c.args.spare.items ++ later) (sym (counters_of_ends source outbox dones)));
    }

pub returns-clause-gate_called : goal.returns-clause-gate_called
returns-clause-gate_called g c =
    let source = g.S.Source in let outbox = g.O.Outbox in let dones = c.in_ok-dones.dones.items in
    let kept = ap (λ (all : List CounterValue). all ++ map (λ done. done.counter) dones) c.in-Ok.ensures.items in record {
      ends = map (parts_of_done source outbox) dones;
      gate_called = gated_of source outbox (g.G.Gate.called c.args.gate.now) (vec_len c.args.jobs) 1 c.args.jobs.items dones c.in_ok-dones.ensures.gate_called;
      counters_back = c.take_back.ensures.counters ∙ (kept ∙ ap (λ (later : List CounterValue). c.args.spare.items ++ later) (sym (counters_of_ends source outbox dones)));
    }

pub returns-clause-side_was_run : goal.returns-clause-side_was_run
returns-clause-side_was_run g c = search rules

pub returns-clause-spawn_failed : goal.returns-clause-spawn_failed
returns-clause-spawn_failed g c = search rules
