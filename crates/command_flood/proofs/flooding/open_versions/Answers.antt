use Rattle.std.proofs.Common.{subst, rules}
use Rattle.read_section.specs.Operator.{AreOpenedWorkers}
use Rattle.dispatch.proofs.CountedLemmas.{opened_workers}
use Rattle.command_flood.specs.FloodVersions.{opening_version}
use Rattle.command_flood.proofs.flooding.open_versions.Goals as goal

pub returns-clause-opening : goal.returns-clause-opening
returns-clause-opening c =
    opened_workers opening_version c.in_ok-operator.operator.table c.in_ok-operator.workers.items
    (subst (λ config. AreOpenedWorkers c.in_ok-operator.operator.table config c.in_ok-operator.workers.items) c.in_ok-opening.ensures c.in_ok-operator.ensures.workers)

pub returns-clause-successors : goal.returns-clause-successors
returns-clause-successors c = search rules

pub returns-clause-workers : goal.returns-clause-workers
returns-clause-workers c = search rules
