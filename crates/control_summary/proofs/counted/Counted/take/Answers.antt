use Rattle.std.proofs.Common.{◌++◌, List, subst, sym, ℕ}
use Rattle.control_summary.specs.body.Counted.{IsAt}
use Rattle.control_summary.proofs.LineLemmas.{taken_all, taken_line}
use Rattle.control_summary.proofs.counted.Counted.take.Goals as goal

pub loop-front-preserved : goal.loop-front-preserved
loop-front-preserved c =
    let old = c.args.self.now in
    let mid = c.loop-front.self in
    let after = c.count_held.new.self in
    taken_line c.args.bytes.now c.loop-front.left.now old.held.items old.rows.items mid.held.items mid.rows.items c.loop-front.invariant c.in-Some.front.now c.in-Some.behind.now c.in-Some.ensures
    after.held.items after.rows.items
    (λ text at. c.in_ok-count_held.ensures text (subst (λ (held : List ℕ). IsAt text held mid.rows.items) (sym c.in_ok-extend_from_slice.ensures.items) at))

pub returns : goal.returns
returns c = λ text at.
    let old = c.args.self.now in
    let mid = c.loop-front.self in
    subst (λ (held : List ℕ). IsAt (text ++ c.args.bytes.now) held mid.rows.items) (sym c.in_ok-extend_from_slice-2.ensures.items)
    (taken_all c.args.bytes.now c.loop-front.left.now old.held.items old.rows.items mid.held.items mid.rows.items c.loop-front.invariant c.in_default.ensures text at)
