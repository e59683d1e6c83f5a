use Rattle.std.proofs.Common.{subst, ◌-◌, rules}
use Rattle.read_section.specs.Operator.{IsReport, OperatorValue}
use Rattle.read_section.proofs.KeeperLemmas.{IsKeptBy-reported, IsReport-now, reported_below}
use Rattle.read_section.proofs.operator.Operator.report.Goals as goal

pub overflow_sub-count : goal.overflow_sub-count
overflow_sub-count c = let h = c.self.invariant in reported_below _ _ _ _ _ _ _ h c.free_versions.result (c.free_versions.ensures.free_below _ h.steps_told)

pub invariant_of-self : goal.invariant_of-self
invariant_of-self c = let h = c.self.invariant in IsKeptBy-reported _ _ _ _ _ _ _ h c.free_versions.result (c.free_versions.ensures.free_below _ h.steps_told)

pub returns-clause-report_exact : goal.returns-clause-report_exact
returns-clause-report_exact c = let h = c.self.invariant in let first = c.self.inside.reported in
    subst (λ (o : OperatorValue). IsReport o.view o.reported first (c.free_versions.result - first)) c.self.view_is (IsReport-now _ _ _ _ _ _ _ h c.free_versions.result (c.free_versions.ensures.free_below _ h.steps_told))

pub returns-clause-reported : goal.returns-clause-reported
returns-clause-reported c = search rules
