use Rattle.std.proofs.lemmas.List.Sorted.{All-permutation}
use Rattle.serve_udp.proofs.opening.open_table.Goals as goal
use Rattle.dispatch.proofs.CountedLemmas.{opened_workers}
use Rattle.dispatch.specs.Counted.{IsNewWorker}

pub returns-clause-opening : goal.returns-clause-opening
returns-clause-opening c =
    let table = c.in_ok-operator.operator.table in let workers = c.in_ok-operator.workers.items in
    All-permutation (IsNewWorker c.args.config table) workers c.spread.new.workers.items c.spread.ensures.same_workers
    (opened_workers c.args.config table workers c.in_ok-operator.ensures.workers)
