use Rattle.std.proofs.Common.{◌≡◌, None, Some, refl}
use Rattle.member_counts.specs.Log.{last_run}
use Rattle.member_counts.proofs.TableLemmas.{counted-all, counted-last, counted_none, counted_step_at, kept_exact}
use Rattle.member_counts.proofs.table.MemberTable.count.Goals as goal

pub loop-entry-init : goal.loop-entry-init
loop-entry-init c = counted_none c.args.self.now

pub loop-entry-preserved : goal.loop-entry-preserved
loop-entry-preserved c =
    counted_step_at c.args.self.now c.loop-entry.self c.add.new.self c.earlier-entry-items.result.now c.loop-entry.entry-index
    _ _ _ c.loop-entry-test.true c.loop-entry.invariant refl refl c.add.ensures.adds c.add.ensures.conserved

pub returns-in-Some-clause-counts : goal.returns-in-Some-clause-counts
returns-in-Some-clause-counts c =
    let there : Some c.in-Some.last ≡ last_run c.args.log.now.entries = rw c.in-Some.is at c.last.ensures in
    let counted = counted-last c.args.self.now c.loop-entry.self c.args.log.now.entries _ _ c.earlier-entry-items.ensures c.loop-entry-test.false c.loop-entry.invariant
    c.add_last.new.self c.in-Some.last there c.add_last.ensures.adds c.add_last.ensures.conserved in
    counted.counts

pub returns-in-Some-clause-kept_exact : goal.returns-in-Some-clause-kept_exact
returns-in-Some-clause-kept_exact c =
    let there : Some c.in-Some.last ≡ last_run c.args.log.now.entries = rw c.in-Some.is at c.last.ensures in
    let counted = counted-last c.args.self.now c.loop-entry.self c.args.log.now.entries _ _ c.earlier-entry-items.ensures c.loop-entry-test.false c.loop-entry.invariant
    c.add_last.new.self c.in-Some.last there c.add_last.ensures.adds c.add_last.ensures.conserved in
    kept_exact c.args.self.now c.args.log.now.entries c.add_last.new.self counted.counts

pub returns-in-Some-clause-conserved : goal.returns-in-Some-clause-conserved
returns-in-Some-clause-conserved c =
    let there : Some c.in-Some.last ≡ last_run c.args.log.now.entries = rw c.in-Some.is at c.last.ensures in
    let counted = counted-last c.args.self.now c.loop-entry.self c.args.log.now.entries _ _ c.earlier-entry-items.ensures c.loop-entry-test.false c.loop-entry.invariant
    c.add_last.new.self c.in-Some.last there c.add_last.ensures.adds c.add_last.ensures.conserved in
    counted.conserved

pub returns-in_default-clause-counts : goal.returns-in_default-clause-counts
returns-in_default-clause-counts c =
    let none : None ≡ last_run c.args.log.now.entries = rw c.in_default.is at c.last.ensures in
    let counted = counted-all c.args.self.now c.loop-entry.self c.args.log.now.entries _ _ c.earlier-entry-items.ensures c.loop-entry-test.false c.loop-entry.invariant none in
    counted.counts

pub returns-in_default-clause-kept_exact : goal.returns-in_default-clause-kept_exact
returns-in_default-clause-kept_exact c =
    let none : None ≡ last_run c.args.log.now.entries = rw c.in_default.is at c.last.ensures in
    let counted = counted-all c.args.self.now c.loop-entry.self c.args.log.now.entries _ _ c.earlier-entry-items.ensures c.loop-entry-test.false c.loop-entry.invariant none in
    kept_exact c.args.self.now c.args.log.now.entries c.loop-entry.self counted.counts

pub returns-in_default-clause-conserved : goal.returns-in_default-clause-conserved
returns-in_default-clause-conserved c =
    let none : None ≡ last_run c.args.log.now.entries = rw c.in_default.is at c.last.ensures in
    let counted = counted-all c.args.self.now c.loop-entry.self c.args.log.now.entries _ _ c.earlier-entry-items.ensures c.loop-entry-test.false c.loop-entry.invariant none in
    counted.conserved
