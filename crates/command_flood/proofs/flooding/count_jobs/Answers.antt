use Rattle.std.proofs.Common.{◌∙◌}
use Rattle.dispatch.specs.contracts.memory.DatagramsSource.TheImpl.{ghosts as datagrams_source}
use Rattle.dispatch.specs.contracts.memory.SendsOutbox.TheImpl.{ghosts as sends_outbox}
use Rattle.dispatch.proofs.CountedLemmas.{all_counters, sum_of_ends}
use Rattle.command_flood.proofs.flooding.count_jobs.Goals as goal

pub gather-requires : goal.gather-requires
gather-requires g c =
    let new = c.requires.counters in record {
      counters = all_counters datagrams_source sends_outbox c.args.counters.0.table c.args.jobs.items c.args.counters.1.items c.in-Ok.counters.items
          c.in-Ok.ensures.counters_back new.new_spare new.new_counters new.all_counters;
    }

pub returns-in-Ok-clause-totals : goal.returns-in-Ok-clause-totals
returns-in-Ok-clause-totals g c =
    let new = c.requires.counters in
    let back = c.in-Ok.ensures.counters_back in record {
      ends = back.ends;
      run_to_the_end = back.run_to_the_end;
      sum_exact = λ kind. c.gather.ensures.sum_exact kind
          ∙ sum_of_ends datagrams_source sends_outbox c.args.counters.0.table c.args.jobs.items c.args.counters.1.items c.in-Ok.counters.items back new.new_spare new.new_counters kind;
    }
