use Rattle.std.proofs.Common.{Bool, List, subst, sym, ◌==◌, ◌∙◌, ap, ℕ, Ok}
use Rattle.control_client.specs.Lines.{LosesLine, lines_known}
use Rattle.control_client.specs.body.Unread.{TakesLine, left_of}
use Rattle.control_client.proofs.LinesLemmas.{input_over, line_ended}
use Rattle.control_client.proofs.given_lines.read_line.Goals as goal

pub returns-then-ended-clause-next_line : goal.returns-then-ended-clause-next_line
returns-then-ended-clause-next_line g c =
    let start = left_of c.args.unread.now (g.I.Input.state c.args.input.now).coming in let coming = (g.I.Input.state c.loop-ended.input).coming in
    let line = c.loop-ended.line.items in let before = c.loop-ended.invariant in
    let took = subst (λ (b : Bool). TakesLine c.loop-ended.unread c.take_line.new.self line c.take_line.new.line.items b) c.if-ended.true c.in_ok-ended.ensures in
    subst (λ (l : List ℕ). LosesLine (lines_known start) (lines_known (left_of c.take_line.new.self coming)) l) (sym took.3)
    (line_ended coming start c.loop-ended.unread c.take_line.new.self line took.0 took.2 before.0 took.1 before.1)

pub returns-then-not-branch-clause-next_line : goal.returns-then-not-branch-clause-next_line
returns-then-not-branch-clause-next_line g c =
    let start = left_of c.args.unread.now (g.I.Input.state c.args.input.now).coming in
    let line = c.loop-ended.line.items in let before = c.loop-ended.invariant in let fill = c.in_ok-fill.ensures in
    input_over (g.I.Input.state c.loop-ended.input).coming (g.I.Input.state c.fill.new.input).coming start c.loop-ended.unread c.take_line.new.self c.fill.new.self
    line c.take_line.new.line.items c.is_empty.result before.0 before.1
    (subst (λ (b : Bool). TakesLine c.loop-ended.unread c.take_line.new.self line c.take_line.new.line.items b) c.if-ended.false c.in_ok-ended.ensures)
    fill.filled (fill.end (ap Ok c.if-not-branch.true)) (c.is_empty.ensures ∙ ap (λ (n : ℕ). n == 0) c.take_line.new.line.ok.0)
