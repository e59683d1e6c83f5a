use Rattle.std.proofs.Common.{ap, arith, sym, ◌∙◌}
use Rattle.control_line.specs.Rules.{without_return}
use Rattle.control_line.proofs.RulesLemmas.{line_later, line_none}
use Rattle.control_line.proofs.rules_file.line_at.Goals as goal

pub loop-line-preserved : goal.loop-line-preserved
loop-line-preserved c =
    c.loop-line.invariant ∙ line_later c.loop-line.before c.loop-line.left.now c.in-Some.line.now c.in-Some.rest.now c.in-Some.ensures (omega arith)

pub returns : goal.returns
returns c =
    c.in_default.ensures
    ∙ sym (ap without_return (c.loop-line.invariant ∙ line_none c.loop-line.before c.loop-line.left.now c.in_default.ensures))
