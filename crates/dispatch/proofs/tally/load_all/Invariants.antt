use Rattle.std.proofs.Common.{◌≡◌, ◌<◌, ℕ, length}
use Rattle.std.specs.Prelude.{slice_index}
use Rattle.dispatch.specs.declared.kind.TheConstants.{KINDS}
use Rattle.dispatch.specs.declared.tally.TheConstants.{COUNTERS}
use Rattle.dispatch.specs.Tally.{GaveAtMost, loaded_below, times}
use Rattle.dispatch.specs.body.TallyRule.{IsSeatOf}
use Rattle.dispatch.proofs.tally.load_all.Given as goal

abbrev pub invariant-loop-place : goal.invariant-loop-place
invariant-loop-place l =
    let old = l.fn.seat.me.0 in
    (length l.counts ≡ KINDS)
    × (l.seat.me.0 ≡ record old { loads = loaded_below l.place l.counts old.loads })
    × (old.counters ≡ COUNTERS → (place : ℕ) → place < l.place → slice_index l.counts place ≡ times place old.added)
    × ((place : ℕ) → place < l.place → GaveAtMost old.loads place (slice_index l.counts place))
    × IsSeatOf l.seat.me.1 l.seat.table_id l.table.shared.table_id
