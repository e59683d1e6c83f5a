use Rattle.command_explain.proofs.MeaningLemmas.{IsPast}
use Rattle.command_explain.proofs.meaning.sentence_length.Given as goal

abbrev pub invariant-loop-place : goal.invariant-loop-place
invariant-loop-place l = IsPast l.place l.text
