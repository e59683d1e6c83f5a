use Rattle.std.proofs.Common.{◌≡◌, arith, subst}
use Rattle.std.proofs.lemmas.Bool.{false≢true}
use Rattle.control_rules.proofs.LearnLemmas.{learns_nothing, learns_then, learns_weaker}
use Rattle.control_counters.specs.body.Framed.{AddsFirstGroups}
use Rattle.control_counters.proofs.FrameLemmas.{groups_begin}
use Rattle.control_rules.proofs.StopLemmas.{err_is, stops_after}
use Rattle.control_counters.proofs.frame.push_groups.Goals as goal

pub loop-index-init : goal.loop-index-init
loop-index-init g c = learns_nothing c.args.client.now _ (λ history are. groups_begin (history c.args.shown.version) c.args.groups.now.items c.args.members.now.items)

pub returns-then-not-branch : goal.returns-then-not-branch
returns-then-not-branch g c =
    learns_weaker c.args.client.now c.push_group.new.client _ _ (λ history are both done. absurd (false≢true done))
    (learns_then c.args.client.now c.loop-index.client c.push_group.new.client _ _ c.loop-index.invariant c.in_ok-push_group.ensures)

pub loop-index-preserved : goal.loop-index-preserved
loop-index-preserved g c =
    learns_weaker c.args.client.now c.push_group.new.client _ _
    (λ history are both. both.1 c.if-not-branch.false c.args.groups.now.items c.args.members.now.items both.0)
    (learns_then c.args.client.now c.loop-index.client c.push_group.new.client _ _ c.loop-index.invariant c.in_ok-push_group.ensures)

pub returns : goal.returns
returns g c =
    let all : c.loop-index.index ≡ c.args.shown.groups = omega (arith, c.loop-index-test.false, c.loop-index.auto.index-end) in
    learns_weaker c.args.client.now c.loop-index.client _ _
    (λ history are first done.
    subst (λ n. AddsFirstGroups (history c.args.shown.version) n c.args.groups.now.items c.loop-index.groups.items c.args.members.now.items c.loop-index.members.items) all first)
    c.loop-index.invariant

pub returns-in_err-push_group : goal.returns-in_err-push_group
returns-in_err-push_group g c =
    rw (err_is c.from_residual.result c.in_err-push_group.field-0.0 c.from_residual.ensures.1)
    (stops_after c.in_err-push_group.field-0.0 c.args.client.now c.loop-index.client c.push_group.new.client _ c.loop-index.invariant c.in_err-push_group.ensures)
