use Rattle.std.proofs.Common.{ap, arith, refl, sym, ◌∙◌}
use Rattle.retire.proofs.DiffLemmas.{goes_on_other, goes_on_same, none_there}
use Rattle.retire.proofs.diff.Walk.pass.Goals.{then-not-same_words+else-words-other+else-is_some, else-not-same_words}
use Rattle.retire.proofs.diff.Walk.pass.Goals as goal

pub returns-clause-goes_on : goal.returns-clause-goes_on
returns-clause-goes_on c = λ t. elim c.if-not-same_words.branch [
  | then-not-same_words+else-words-other+else-is_some w ↦ goes_on_other c.args.self.now _ c.args.words.now c.args.other.now (omega (arith, ap (λ s. s.pages) w.self-is, c.pages_for.ensures)) _ (none_there c.args.self.now.differs (sym w.is_some.ensures ∙ w.if-is_some.false)) (ap (λ s. s.differs) w.self-is) refl refl w.if-words-other.false
  | else-not-same_words w ↦ goes_on_same c.args.self.now _ c.args.words.now c.args.other.now (omega (arith, ap (λ s. s.pages) w.self-is, c.pages_for.ensures)) (c.same_words.ensures.0 w.if-not-same_words.false) (ap (λ s. s.differs) w.self-is)
]
