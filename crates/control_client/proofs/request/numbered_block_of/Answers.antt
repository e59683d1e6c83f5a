use Rattle.std.proofs.Common.{List, ap, ◌++◌, ◌∙◌, ℕ, rules}
use Rattle.control_client.specs.body.Collecting.{Collected}
use Rattle.control_client.proofs.RequestLemmas.{block_of_lines, numbers_of_lines}
use Rattle.control_client.proofs.request.numbered_block_of.Goals as goal

pub returns-clause-block : goal.returns-clause-block
returns-clause-block g c =
    let head = c.extend_from_slice-2.new.self.items in
    let start : Collected = record { text = c.new-text.result.items; numbers = c.clear.new.self.items } in
    let end : Collected = record { text = c.add_all.new.text.items; numbers = c.add_all.new.numbers.items } in
    block_of_lines c.args.front.now (g.L.Lines.coming c.args.lines.now) c.in_ok-count.count start end head c.extend_from_slice-3.new.self.items
    c.new-text.ensures.items
    c.in_ok-count.ensures.added
    (search rules)
    (c.in_ok-extend_from_slice-3.ensures.items ∙ ap (λ (t : List ℕ). head ++ t) c.deref.ensures.value)

pub returns-clause-numbers : goal.returns-clause-numbers
returns-clause-numbers g c =
    let start : Collected = record { text = c.new-text.result.items; numbers = c.clear.new.self.items } in
    let end : Collected = record { text = c.add_all.new.text.items; numbers = c.add_all.new.numbers.items } in
    numbers_of_lines (g.L.Lines.coming c.args.lines.now) c.in_ok-count.count start end c.clear.ensures.items c.in_ok-count.ensures.added
