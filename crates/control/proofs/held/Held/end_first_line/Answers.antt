use Rattle.std.proofs.Common.{List, arith, refl, subst, ℕ}
use Rattle.control.specs.body.Held.{IsCountAfter}
use Rattle.control.specs.declared.held.TheConstants.{BLOCK_ROOM}
use Rattle.control.proofs.HeldLemmas.{block_begun, single_ended}
use Rattle.control.proofs.held.Held.end_first_line.Goals as goal

pub returns-then-count-eq0 : goal.returns-then-count-eq0
returns-then-count-eq0 c =
    let count = c.lines_after-count.result in
    single_ended c.args.self.now count c.requires (subst (λ (line : List ℕ). IsCountAfter line count) c.deref.ensures.value c.lines_after-count.ensures) (omega (arith, c.if-count-eq0.true))

pub returns : goal.returns
returns c =
    let count = c.lines_after-count.result in
    block_begun c.args.self.now (record { bytes = c.args.self.now.bytes; room = BLOCK_ROOM; due = count }) c.push.new.self count c.requires
    (subst (λ (line : List ℕ). IsCountAfter line count) c.deref.ensures.value c.lines_after-count.ensures) (λ none. absurd (omega (arith, none, c.if-count-eq0.false))) refl refl c.in_ok-push.ensures.due c.in_ok-push.ensures.held
