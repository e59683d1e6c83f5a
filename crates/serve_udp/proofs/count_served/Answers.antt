use Rattle.std.proofs.Common.{◌∙◌, subst, sym}
use Rattle.dispatch.specs.Tally.{AreCountersOf}
use Rattle.dispatch.proofs.CountedLemmas.{all_counters, sum_of_ends}
use Rattle.serve_udp.proofs.count_served.Goals as goal

pub gather-requires : goal.gather-requires
gather-requires g c =
    let counters = c.requires.counters in record {
      counters = subst (λ table. AreCountersOf table c.in-Ok.counters.items) (c.requires.named ∙ sym c.named-2-1.given.is_named)
          (all_counters _ _ c.args.service.tally.table c.args.jobs.items c.args.service.spare.items c.in-Ok.counters.items c.in-Ok.ensures.counters_back
          counters.new_spare counters.new_counters counters.all_counters);
    }

pub returns-in-Stopped-clause-totals : goal.returns-in-Stopped-clause-totals
returns-in-Stopped-clause-totals g c =
    let counters = c.requires.counters in
    let back = c.in-Ok.ensures.counters_back in record {
      ends = back.ends;
      run_to_the_end = back.run_to_the_end;
      sum_exact = λ kind. c.gather.ensures.sum_exact kind
          ∙ sum_of_ends _ _ c.args.service.tally.table c.args.jobs.items c.args.service.spare.items c.in-Ok.counters.items back counters.new_spare counters.new_counters kind;
    }
