use Rattle.std.proofs.Common.{arith}
use Rattle.serve_udp.proofs.opening.open_over.Goals as goal

pub returns-clause-opened : goal.returns-clause-opened
returns-clause-opened g c =
    let made = rw c.in_ok-jobs.ensures.jobs at c.jobs-jobs.ensures.made in
    let their_sources = rw c.in_ok-jobs.ensures.jobs at c.jobs-jobs.ensures.sources in
    let all = c.requires.counters.count in
    let job_count = made.job_count in
    let counter_each = made.counter_each in
    let counters = made.new_counters c.args.ends.tally.table c.requires.counters.each in
    record {
      counters = record { all_counters = omega arith; new_spare = counters.0; new_counters = counters.1 };
      their_sources = their_sources;
      new_outboxes = made.new_outboxes;
      rooms = made.rooms;
    }

pub returns-clause-new_workers : goal.returns-clause-new_workers
returns-clause-new_workers g c = λ opening new.
    let made = rw c.in_ok-jobs.ensures.jobs at c.jobs-jobs.ensures.made in
    (made.new_workers opening c.args.ends.operator.table new).1
