use Rattle.std.proofs.Common.{subst}
use Rattle.command_query.specs.body.FirstTable.{IsRunOf}
use Rattle.command_query.proofs.TableLemmas.{nothing_published, runs_now, same_table, version_now}
use Rattle.command_query.proofs.first_path.run_current.Goals as goal

pub unreachable-requires : goal.unreachable-requires
unreachable-requires c = let now = c.requires.selects in subst (IsRunOf now.0) c.in_default.is (runs_now c.args.worker.now c.meet.new.self c.run_in_section-version.new.worker c.meet-2.new.self c.args.operator.now c.meet.new.operator c.meet-2.new.operator _ _ c.meet.ensures.meets_by_two_steps c.run_in_section-version.ensures c.meet-2.ensures.meets_by_two_steps now.0 now.1)

pub returns-clause-line : goal.returns-clause-line
returns-clause-line c = λ selector now. let run = subst (IsRunOf selector) c.in-Some.is (runs_now c.args.worker.now c.meet.new.self c.run_in_section-version.new.worker c.meet-2.new.self c.args.operator.now c.meet.new.operator c.meet-2.new.operator _ _ c.meet.ensures.meets_by_two_steps c.run_in_section-version.ensures c.meet-2.ensures.meets_by_two_steps selector now) in
    record { version = version_now c.args.worker.now c.meet.new.self c.run_in_section-version.new.worker c.meet-2.new.self c.args.operator.now c.meet.new.operator c.meet-2.new.operator _ _ c.meet.ensures.meets_by_two_steps c.run_in_section-version.ensures c.meet-2.ensures.meets_by_two_steps; value = run.0; steps = run.1; kept = c.min.ensures }

pub returns-clause-versions_kept : goal.returns-clause-versions_kept
returns-clause-versions_kept c = nothing_published c.args.worker.now c.meet.new.self c.run_in_section-version.new.worker c.meet-2.new.self c.args.operator.now c.meet.new.operator c.meet-2.new.operator _ _ c.meet.ensures.meets_by_two_steps c.run_in_section-version.ensures c.meet-2.ensures.meets_by_two_steps

pub returns-clause-table_kept : goal.returns-clause-table_kept
returns-clause-table_kept c = same_table c.args.worker.now c.meet.new.self c.run_in_section-version.new.worker c.meet-2.new.self c.args.operator.now c.meet.new.operator c.meet-2.new.operator _ _ c.meet.ensures.meets_by_two_steps c.run_in_section-version.ensures c.meet-2.ensures.meets_by_two_steps
