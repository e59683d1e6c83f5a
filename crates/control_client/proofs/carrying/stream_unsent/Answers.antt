use Rattle.std.proofs.Common.{arith, sym, ◌∙◌}
use Rattle.control_client.specs.Carried.{split, too_long}
use Rattle.control_client.proofs.CarriedLemmas.{block_broken, block_carried, block_too_long}
use Rattle.control_client.proofs.carrying.stream_unsent.Goals as goal

pub returns-then-rest-gt-BLOCK_LIMIT : goal.returns-then-rest-gt-BLOCK_LIMIT
returns-then-rest-gt-BLOCK_LIMIT c =
    let first = c.cut_line.result.0.now in let rest = c.cut_line.result.1.now in let head = c.in-Some.head in
    too_long (block_too_long c.args.text.now first rest c.cut_line.ensures head c.in-Some.ensures.0 c.in-Some.ensures.1 c.if-rest-gt-BLOCK_LIMIT.true)

pub returns-then-count_lines-head : goal.returns-then-count_lines-head
returns-then-count_lines-head c =
    let first = c.cut_line.result.0.now in let rest = c.cut_line.result.1.now in let head = c.in-Some.head in
    split (block_broken c.args.text.now first rest c.cut_line.ensures head c.in-Some.ensures.0 c.in-Some.ensures.1
    (λ same. c.if-count_lines-head.true (c.count_lines.ensures ∙ same)) (omega arith))

pub returns : goal.returns
returns c =
    let first = c.cut_line.result.0.now in let rest = c.cut_line.result.1.now in let head = c.in-Some.head in
    block_carried c.args.text.now first rest c.cut_line.ensures head c.in-Some.ensures.0 c.in-Some.ensures.1
    (sym c.count_lines.ensures ∙ c.if-count_lines-head.false) (omega arith)
