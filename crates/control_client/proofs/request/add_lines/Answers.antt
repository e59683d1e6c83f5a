use Rattle.std.proofs.Common.{Bool, arith, subst, ◌<◌, ◌≡◌, ℕ, refl, ◌∙◌}
use Rattle.control_client.specs.body.Collecting.{AddsLine, AddsSome, Collected}
use Rattle.control_client.proofs.RequestLemmas.{adds_fewer, adds_more, adds_nothing, adds_whole}
use Rattle.control_client.proofs.request.add_lines.Goals as goal

pub loop-line-init : goal.loop-line-init
loop-line-init g c = (adds_nothing (g.L.Lines.coming c.args.lines.now) (record { text = c.args.request.now.items; numbers = c.args.numbers.now.items }), refl)

pub loop-line-preserved : goal.loop-line-preserved
loop-line-preserved g c =
    let before = g.L.Lines.coming c.args.lines.now in let mid = g.L.Lines.coming c.loop-line.lines in let after = g.L.Lines.coming c.add_line.new.lines in
    let start : Collected = record { text = c.args.request.now.items; numbers = c.args.numbers.now.items } in
    let now : Collected = record { text = c.loop-line.request.items; numbers = c.loop-line.numbers.items } in
    let end : Collected = record { text = c.add_line.new.request.items; numbers = c.add_line.new.numbers.items } in (
      adds_more c.loop-line._line before mid after start now end c.loop-line.invariant.0
          (subst (λ (some : Bool). AddsLine mid after now end some) c.if-not-branch.false c.in_ok-add_line.ensures.added),
      c.in_ok-add_line.ensures.device_failed ∙ c.loop-line.invariant.1,
    )

pub returns-then-not-branch-clause-added : goal.returns-then-not-branch-clause-added
returns-then-not-branch-clause-added g c =
    let before = g.L.Lines.coming c.args.lines.now in let mid = g.L.Lines.coming c.loop-line.lines in let after = g.L.Lines.coming c.add_line.new.lines in
    let start : Collected = record { text = c.args.request.now.items; numbers = c.args.numbers.now.items } in
    let now : Collected = record { text = c.loop-line.request.items; numbers = c.loop-line.numbers.items } in
    let end : Collected = record { text = c.add_line.new.request.items; numbers = c.add_line.new.numbers.items } in
    let few : c.loop-line._line < c.args.count = (let bound = c.loop-line-test.true in let last = c.loop-line.auto._line-end in omega arith) in
    adds_fewer c.loop-line._line c.args.count before mid after start now end c.loop-line.invariant.0 few
    (subst (λ (some : Bool). AddsLine mid after now end some) c.if-not-branch.true c.in_ok-add_line.ensures.added)

pub returns-clause-added : goal.returns-clause-added
returns-clause-added g c =
    let before = g.L.Lines.coming c.args.lines.now in let now = g.L.Lines.coming c.loop-line.lines in
    let start : Collected = record { text = c.args.request.now.items; numbers = c.args.numbers.now.items } in
    let end : Collected = record { text = c.loop-line.request.items; numbers = c.loop-line.numbers.items } in
    let all : c.loop-line._line ≡ c.args.count = (let bound = c.loop-line-test.false in let last = c.loop-line.auto._line-end in omega arith) in
    adds_whole c.args.count before now start end (subst (λ (n : ℕ). AddsSome n before now start end) all c.loop-line.invariant.0)
