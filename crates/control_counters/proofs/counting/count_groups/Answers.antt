use Rattle.std.proofs.Common.{◌≡◌, ap, map, subst, sym}
use Rattle.control_rules.proofs.FoundLemmas.{some_holds}
use Rattle.control_counters.specs.Frame.{key_of, keys_of}
use Rattle.control_counters.specs.Counts.{group_exchange}
use Rattle.control_counters.proofs.ReadingLemmas.{all_taken, counted_more}
use Rattle.control_counters.proofs.WatchLemmas.{watches_nothing, watches_then, watches_weaker}
use Rattle.control_rules.proofs.StopLemmas.{err_is}
use Rattle.control_counters.proofs.WatchLemmas.{stops_uncounted, stops_watching}
use Rattle.control_counters.proofs.counting.count_groups.Goals as goal

pub loop-group-init : goal.loop-group-init
loop-group-init g c =
    watches_nothing c.args.client.now _ (λ history are. (ap (map key_of) c.new-groups.ensures.items, ap (map group_exchange) (sym c.new-groups.ensures.items)))

pub returns-in_default : goal.returns-in_default
returns-in_default g c =
    watches_weaker c.args.client.now c.ask_group_counts.new.client _ _ (λ history told are it. tt)
    (watches_then c.args.client.now c.loop-group.client c.ask_group_counts.new.client _ _ c.loop-group.invariant c.in_ok-counts.ensures)

pub loop-group-preserved : goal.loop-group-preserved
loop-group-preserved g c =
    watches_weaker c.args.client.now c.ask_group_counts.new.client _ _
    (λ history told are it.
    counted_more key_of group_exchange c.args.known.now c.loop-group.groups.items c.loop-group.group-index _ c.in-Some.counts c.push_row.new.rows.items told it.one it.more
    c.loop-group-test.true it.first (some_holds _ _ c.in-Some.counts it.next c.in-Some.is) it.whole c.in_ok-push_row.ensures)
    (watches_then c.args.client.now c.loop-group.client c.ask_group_counts.new.client _ _ c.loop-group.invariant c.in_ok-counts.ensures)

pub returns : goal.returns
returns g c =
    watches_weaker c.args.client.now c.loop-group.client _ _
    (λ history told are it. subst (λ known. (keys_of c.loop-group.groups.items ≡ keys_of known) × (told ≡ map group_exchange c.loop-group.groups.items))
    (all_taken c.args.known.now c.loop-group.group-index c.loop-group-test.false) it)
    c.loop-group.invariant

pub returns-in_err-counts : goal.returns-in_err-counts
returns-in_err-counts g c =
    rw (err_is c.from_residual.result c.in_err-counts.field-0.0 c.from_residual.ensures.1)
    (stops_watching c.in_err-counts.field-0.0 c.args.client.now c.loop-group.client c.ask_group_counts.new.client _ c.loop-group.invariant c.in_err-counts.ensures)

pub returns-in_err-push_row : goal.returns-in_err-push_row
returns-in_err-push_row g c =
    rw (err_is c.from_residual-in_err-push_row.result c.in_err-push_row.field-0.0 c.from_residual-in_err-push_row.ensures.1)
    (stops_uncounted c.in_err-push_row.field-0.0 c.args.client.now c.ask_group_counts.new.client _ c.in_err-push_row.ensures
    (watches_then c.args.client.now c.loop-group.client c.ask_group_counts.new.client _ _ c.loop-group.invariant c.in_ok-counts.ensures))
