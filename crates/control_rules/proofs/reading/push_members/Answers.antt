use Rattle.std.proofs.Common.{arith}
use Rattle.std.proofs.lemmas.Bool.{false≢true}
use Rattle.control_rules.proofs.AddedLemmas.{members_begin, members_end, members_more}
use Rattle.control_rules.proofs.LearnLemmas.{learns_nothing, learns_then, learns_weaker}
use Rattle.control_rules.proofs.StopLemmas.{err_is, stops_after}
use Rattle.control_rules.proofs.reading.push_members.Goals as goal

pub loop-index-init : goal.loop-index-init
loop-index-init g c = learns_nothing c.args.client.now _ (λ history are. members_begin (history c.args.version) (are c.args.version) c.args.key c.args.members c.args.text.now.items)

pub returns-then-not-branch : goal.returns-then-not-branch
returns-then-not-branch g c =
    learns_weaker c.args.client.now c.push_member.new.client _ _ (λ history are both done. absurd (false≢true done))
    (learns_then c.args.client.now c.loop-index.client c.push_member.new.client _ _ c.loop-index.invariant c.in_ok-push_member.ensures)

pub loop-index-preserved : goal.loop-index-preserved
loop-index-preserved g c =
    learns_weaker c.args.client.now c.push_member.new.client _ _
    (λ history are both. members_more (history c.args.version) (are c.args.version) c.args.key c.args.members c.loop-index.index c.args.text.now.items c.loop-index.text.items c.push_member.new.text.items
    c.loop-index-test.true both.0 (both.1 c.if-not-branch.false))
    (learns_then c.args.client.now c.loop-index.client c.push_member.new.client _ _ c.loop-index.invariant c.in_ok-push_member.ensures)

pub returns : goal.returns
returns g c =
    learns_weaker c.args.client.now c.loop-index.client _ _
    (λ history are first done. members_end (history c.args.version) (are c.args.version) c.args.key c.args.members c.loop-index.index c.args.text.now.items c.loop-index.text.items
    (omega (arith, c.loop-index-test.false, c.loop-index.auto.index-end)) first)
    c.loop-index.invariant

pub returns-in_err-push_member : goal.returns-in_err-push_member
returns-in_err-push_member g c =
    rw (err_is c.from_residual.result c.in_err-push_member.field-0.0 c.from_residual.ensures.1)
    (stops_after c.in_err-push_member.field-0.0 c.args.client.now c.loop-index.client c.push_member.new.client _ c.loop-index.invariant c.in_err-push_member.ensures)
