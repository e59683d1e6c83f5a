use Rattle.std.proofs.Common.{Bool, subst, refl, ◌∙◌}
use Rattle.control_client.specs.body.Collecting.{AddsLine, Collected}
use Rattle.control_client.proofs.RequestLemmas.{adds_all, adds_more, adds_nothing}
use Rattle.control_client.proofs.request.add_all.Goals as goal

pub loop-count-init : goal.loop-count-init
loop-count-init g c = (adds_nothing (g.L.Lines.coming c.args.lines.now) (record { text = c.args.text.now.items; numbers = c.args.numbers.now.items }), refl)

pub loop-count-preserved : goal.loop-count-preserved
loop-count-preserved g c =
    let before = g.L.Lines.coming c.args.lines.now in let mid = g.L.Lines.coming c.loop-count.lines in let after = g.L.Lines.coming c.add_line.new.lines in
    let start : Collected = record { text = c.args.text.now.items; numbers = c.args.numbers.now.items } in
    let now : Collected = record { text = c.loop-count.text.items; numbers = c.loop-count.numbers.items } in
    let end : Collected = record { text = c.add_line.new.request.items; numbers = c.add_line.new.numbers.items } in (
      adds_more c.loop-count.count before mid after start now end c.loop-count.invariant.0
          (subst (λ (some : Bool). AddsLine mid after now end some) c.if-not-branch.false c.in_ok-add_line.ensures.added),
      c.in_ok-add_line.ensures.device_failed ∙ c.loop-count.invariant.1,
    )

pub returns-then-not-branch-clause-added : goal.returns-then-not-branch-clause-added
returns-then-not-branch-clause-added g c =
    let before = g.L.Lines.coming c.args.lines.now in let mid = g.L.Lines.coming c.loop-count.lines in let after = g.L.Lines.coming c.add_line.new.lines in
    let start : Collected = record { text = c.args.text.now.items; numbers = c.args.numbers.now.items } in
    let now : Collected = record { text = c.loop-count.text.items; numbers = c.loop-count.numbers.items } in
    let end : Collected = record { text = c.add_line.new.request.items; numbers = c.add_line.new.numbers.items } in
    adds_all c.loop-count.count before mid after start now end c.loop-count.invariant.0
    (subst (λ (some : Bool). AddsLine mid after now end some) c.if-not-branch.true c.in_ok-add_line.ensures.added)
