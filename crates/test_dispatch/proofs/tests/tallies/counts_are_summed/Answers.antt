use Rattle.std.proofs.Common.{ap, subst, sym, ◌∙◌}
use Rattle.atomic_table.specs.Seated.{TableId}
use Rattle.dispatch.specs.Tally.{AreCountersOf, TallyValue}
use Rattle.dispatch.proofs.TallyLemmas.{opened_are_all}
use Rattle.test_dispatch.proofs.tests.tallies.counts_are_summed.Goals as goal

pub gather-totals-requires : goal.gather-totals-requires
gather-totals-requires g c =
    let opened = opened_are_all c.in_ok-tally.tally.table c.in_ok-tally.counters.items c.in_ok-tally.ensures.counters in
    let same = ap (λ (t : TallyValue). t.table) c.read-4.ensures.one_load ∙ ap (λ (t : TallyValue). t.table) c.read-3.ensures.one_load
    ∙ ap (λ (t : TallyValue). t.table) c.read-2.ensures.one_load ∙ ap (λ (t : TallyValue). t.table) c.read.ensures.one_load in
    record { counters = subst (λ (table : TableId). AreCountersOf table c.in_ok-counters.counters.items) (sym same) (c.in_ok-counters.ensures _ opened) }
