use Rattle.std.proofs.Common.{◌∙◌}
use Rattle.selector_buckets.proofs.TurnLemmas.{no_turns, turn_taken, turn_waits}
use Rattle.selector_buckets.proofs.turns.take_turns.Goals as goal
use Rattle.selector_buckets.proofs.turns.take_turns.Goals.{else-round-quotas, then-round-quotas}

pub loop-member-init : goal.loop-member-init
loop-member-init c = no_turns c.args.ids.now c.args.quotas.now c.args.round c.args.table.now

pub loop-member-preserved : goal.loop-member-preserved
loop-member-preserved c = elim c.if-round-quotas.branch [
  | then-round-quotas w ↦ w.table-is ∙ turn_taken c.args.ids.now c.args.quotas.now c.args.round c.loop-member.member c.args.table.now c.loop-member.table c.loop-member.invariant w.next_free.result w.if-round-quotas.true w.next_free.ensures.next
  | else-round-quotas w ↦ w.table-is ∙ turn_waits c.args.ids.now c.args.quotas.now c.args.round c.loop-member.member c.args.table.now c.loop-member.table c.loop-member.invariant w.if-round-quotas.false
]
