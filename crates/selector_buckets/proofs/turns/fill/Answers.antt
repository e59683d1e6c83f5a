use Rattle.selector_buckets.proofs.TurnLemmas.{no_rounds, round_more}
use Rattle.selector_buckets.proofs.turns.fill.Goals as goal

pub loop-round-init : goal.loop-round-init
loop-round-init c = no_rounds c.args.ids.now c.args.quotas.now c.args.table.now

pub loop-round-preserved : goal.loop-round-preserved
loop-round-preserved c = round_more c.args.ids.now c.args.quotas.now c.loop-round.round c.args.table.now c.loop-round.table c.take_turns.new.table c.loop-round.invariant c.take_turns.ensures
