use Rattle.std.proofs.Common.{arith, below_more, false, sym, true, ◌≡◌, ◌∙◌, rules}
use mathlib.Core.Logic.{dite}
use native.Mathlib.Decide.{dec_le}
use Rattle.read_section.proofs.FilledLemmas.{row_inside}
use Rattle.retire.proofs.row.free_row.Goals as goal

true_false : true ≡ false → ⊥
true_false e = cc

pub returns-then-is_free-clause-some : goal.returns-then-is_free-clause-some
returns-then-is_free-clause-some c = record {
  free = c.is_free.ensures.free_row_exact.0 c.if-is_free.true;
  least = λ q free. dite (dec_le c.loop-row.row q) (λ up. up) (λ below. absurd (c.loop-row.invariant q (omega arith) free));
}

pub loop-row-preserved : goal.loop-row-preserved
loop-row-preserved c = below_more _ _ c.loop-row.invariant (λ free. true_false (sym (c.is_free.ensures.free_row_exact.1 free) ∙ c.if-is_free.false))

pub returns-clause-none : goal.returns-clause-none
returns-clause-none c = λ found. let low = row_inside found.0 found.1.0 in let stop = c.loop-row-test.false in c.loop-row.invariant found.0 (omega arith) found.1

pub returns-clause-some : goal.returns-clause-some
returns-clause-some c = search rules

pub returns-then-is_free-clause-none : goal.returns-then-is_free-clause-none
returns-then-is_free-clause-none c = search rules
