use Rattle.std.proofs.Common.{false, sym, true, ◌≡◌, ◌∙◌}
use Rattle.versions.proofs.progress.Progress.fill_word.Goals as goal

true_false : true ≡ false → ⊥
true_false e = cc

pub returns-then-not-may_fill : goal.returns-then-not-may_fill
returns-then-not-may_fill g c = λ s reached room m x legal. true_false (sym ((c.may_fill.ensures.may_fill_exact s.operator m.book).1 legal.0) ∙ c.if-not-may_fill.true)
