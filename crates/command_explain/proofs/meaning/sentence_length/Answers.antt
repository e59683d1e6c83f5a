use Rattle.std.proofs.Common.{false, sym, true, ◌∙◌}
use Rattle.command_explain.proofs.MeaningLemmas.{ends_here, past_more, tested}
use Rattle.command_explain.proofs.meaning.sentence_length.Goals as goal

pub returns-then-begins_with_end-clause-sentence : goal.returns-then-begins_with_end-clause-sentence
returns-then-begins_with_end-clause-sentence c =
    ends_here c.loop-place.place c.args.text.now c.loop-place.invariant c.loop-place-test.true (tested c.loop-place.place c.args.text.now true (sym c.begins_with_end.ensures ∙ c.if-begins_with_end.true))

pub loop-place-preserved : goal.loop-place-preserved
loop-place-preserved c =
    past_more c.loop-place.place c.args.text.now c.loop-place.invariant c.loop-place-test.true (tested c.loop-place.place c.args.text.now false (sym c.begins_with_end.ensures ∙ c.if-begins_with_end.false))
