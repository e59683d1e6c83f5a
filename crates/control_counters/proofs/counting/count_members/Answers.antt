use Rattle.std.proofs.Common.{◌≡◌, ap, map, subst, sym}
use Rattle.control_rules.proofs.FoundLemmas.{some_holds}
use Rattle.control_counters.specs.Frame.{seat_of, seats_of}
use Rattle.control_counters.specs.Counts.{member_exchange}
use Rattle.control_counters.proofs.ReadingLemmas.{all_taken, counted_more}
use Rattle.control_counters.proofs.WatchLemmas.{watches_nothing, watches_then, watches_weaker}
use Rattle.control_rules.proofs.StopLemmas.{err_is}
use Rattle.control_counters.proofs.WatchLemmas.{stops_uncounted, stops_watching}
use Rattle.control_counters.proofs.counting.count_members.Goals as goal

pub loop-member-init : goal.loop-member-init
loop-member-init g c =
    watches_nothing c.args.client.now _ (λ history are. (ap (map seat_of) c.new-members.ensures.items, ap (map member_exchange) (sym c.new-members.ensures.items)))

pub returns-in_default : goal.returns-in_default
returns-in_default g c =
    watches_weaker c.args.client.now c.ask_member_counts.new.client _ _ (λ history told are it. tt)
    (watches_then c.args.client.now c.loop-member.client c.ask_member_counts.new.client _ _ c.loop-member.invariant c.in_ok-counts.ensures)

pub loop-member-preserved : goal.loop-member-preserved
loop-member-preserved g c =
    watches_weaker c.args.client.now c.ask_member_counts.new.client _ _
    (λ history told are it.
    counted_more seat_of member_exchange c.args.known.now c.loop-member.members.items c.loop-member.member-index _ c.in-Some.counts c.push_row.new.rows.items told it.one it.more
    c.loop-member-test.true it.first (some_holds _ _ c.in-Some.counts it.next c.in-Some.is) it.whole c.in_ok-push_row.ensures)
    (watches_then c.args.client.now c.loop-member.client c.ask_member_counts.new.client _ _ c.loop-member.invariant c.in_ok-counts.ensures)

pub returns : goal.returns
returns g c =
    watches_weaker c.args.client.now c.loop-member.client _ _
    (λ history told are it. subst (λ known. (seats_of c.loop-member.members.items ≡ seats_of known) × (told ≡ map member_exchange c.loop-member.members.items))
    (all_taken c.args.known.now c.loop-member.member-index c.loop-member-test.false) it)
    c.loop-member.invariant

pub returns-in_err-counts : goal.returns-in_err-counts
returns-in_err-counts g c =
    rw (err_is c.from_residual.result c.in_err-counts.field-0.0 c.from_residual.ensures.1)
    (stops_watching c.in_err-counts.field-0.0 c.args.client.now c.loop-member.client c.ask_member_counts.new.client _ c.loop-member.invariant c.in_err-counts.ensures)

pub returns-in_err-push_row : goal.returns-in_err-push_row
returns-in_err-push_row g c =
    rw (err_is c.from_residual-in_err-push_row.result c.in_err-push_row.field-0.0 c.from_residual-in_err-push_row.ensures.1)
    (stops_uncounted c.in_err-push_row.field-0.0 c.args.client.now c.ask_member_counts.new.client _ c.in_err-push_row.ensures
    (watches_then c.args.client.now c.loop-member.client c.ask_member_counts.new.client _ _ c.loop-member.invariant c.in_ok-counts.ensures))
