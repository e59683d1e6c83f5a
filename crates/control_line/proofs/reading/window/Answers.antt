use Rattle.std.proofs.Common.{◌∙◌, ◌∷◌, [], sym}
use Rattle.control_line.proofs.WindowLemmas.{window_words}
use Rattle.control_line.proofs.reading.window.Goals as goal

pub returns : goal.returns
returns c =
    (λ i. c.word_or_zero.ensures i ∷ c.word_or_zero-2.ensures i ∷ c.word_or_zero-3.ensures i ∷ c.word_or_zero-4.ensures i ∷ c.word_or_zero-5.ensures i ∷ [])
    ∙ sym (window_words c.args.words.now c.args.place)
