use Rattle.control_line.proofs.RulesLemmas.{all_counted, counted_more, none_counted}
use Rattle.control_line.proofs.rules_file.count_rules.Goals as goal

pub loop-line-init : goal.loop-line-init
loop-line-init c = none_counted c.args.text.now

pub loop-line-preserved : goal.loop-line-preserved
loop-line-preserved c =
    counted_more c.args.text.now c.loop-line.count c.loop-line.left.now c.in-Some.line.now c.in-Some.rest.now c.loop-line.invariant c.in-Some.ensures
    c.rules_at-count.result c.rules_at-count.ensures.count c.rules_at-count.ensures.one

pub returns : goal.returns
returns c = all_counted c.args.text.now c.loop-line.count c.loop-line.left.now c.loop-line.invariant c.in_default.ensures
