use Rattle.std.proofs.Common.{Option, refl, subst, sym, ◌∙◌, ℕ}
use Rattle.control_client.specs.Lines.{GivesNumbered}
use Rattle.control_client.specs.body.Collecting.{Collected}
use Rattle.control_client.proofs.RequestLemmas.{block_request, single_request}
use Rattle.control_client.proofs.request.next_request.Goals as goal

pub returns-in-None-clause-next : goal.returns-in-None-clause-next
returns-in-None-clause-next g c =
    let before = g.L.Lines.coming c.args.lines.now in let after = g.L.Lines.coming c.next.new.self in
    single_request before after c.in-Some.number c.next.new.line.items c.clear.new.self.items
    (subst (λ (given : Option ℕ). GivesNumbered before after c.next.new.line.items given) c.in-Some.is c.in_ok-number.ensures.next_line)
    c.clear.ensures.items
    (λ head is_head is. c.in-None.ensures head is_head (c.deref.ensures.value ∙ is))

pub returns-in_ok-add_lines-in-Some-read_head-clause-next : goal.returns-in_ok-add_lines-in-Some-read_head-clause-next
returns-in_ok-add_lines-in-Some-read_head-clause-next g c =
    let before = g.L.Lines.coming c.args.lines.now in let mid = g.L.Lines.coming c.next.new.self in let after = g.L.Lines.coming c.add_lines.new.lines in
    let start : Collected = record { text = c.next.new.line.items; numbers = c.clear.new.self.items } in
    let end : Collected = record { text = c.add_lines.new.request.items; numbers = c.add_lines.new.numbers.items } in
    block_request before mid after c.in-Some.number c.in-Some-read_head.head c.next.new.line.items start end
    (subst (λ (given : Option ℕ). GivesNumbered before mid c.next.new.line.items given) c.in-Some.is c.in_ok-number.ensures.next_line)
    c.in-Some-read_head.ensures.0 (sym c.deref.ensures.value ∙ c.in-Some-read_head.ensures.1) c.clear.ensures.items refl c.in_ok-add_lines-in-Some-read_head.ensures.added
