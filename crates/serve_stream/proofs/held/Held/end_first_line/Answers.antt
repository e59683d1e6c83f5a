use Rattle.std.proofs.Common.{arith, refl, sym, ◌∙◌}
use Rattle.control_line.specs.declared.TheConstants.{BLOCK_LIMIT}
use Rattle.serve_stream.proofs.HeldLemmas.{block_begun, first_ended, no_lines}
use Rattle.serve_stream.proofs.held.Held.end_first_line.Goals as goal

pub returns-in_default : goal.returns-in_default
returns-in_default c = λ holds.
    first_ended c.end_without_head.result c.deref-in_default.result.now c.args.self.now _ c.requires c.deref-in_default.ensures.value
    (λ head is here. c.in_default.ensures head is (c.deref.ensures.value ∙ (sym c.deref-in_default.ensures.value ∙ here))) c.end_without_head.ensures refl holds

pub returns-then-head-eq0 : goal.returns-then-head-eq0
returns-then-head-eq0 c = λ holds.
    let whole = no_lines c.args.self.now c.requires holds c.in-Some.head c.in-Some.ensures.0 (sym c.deref.ensures.value ∙ c.in-Some.ensures.1) (omega (arith, c.if-head-eq0.true)) in
    (whole.0, whole.1, refl)

pub returns : goal.returns
returns c = λ holds. (
  block_begun c.args.self.now c.requires holds c.in-Some.head c.in-Some.ensures.0 (sym c.deref.ensures.value ∙ c.in-Some.ensures.1)
      (record { bytes = c.args.self.now.bytes; room = BLOCK_LIMIT; due = c.in-Some.head.count }) c.push.new.self (omega (arith, c.if-head-eq0.false)) refl refl refl c.in_ok-push.ensures,
  c.in_ok-push.ensures.items,
)
