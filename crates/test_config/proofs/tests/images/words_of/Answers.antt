use Rattle.std.proofs.Common.{◌∙◌, ◌++◌, ◌∷◌, List, [], ap, sym, take, ℕ}
use Rattle.std.proofs.lemmas.List.{take_more}
use Rattle.std.proofs.lemmas.Option.{get_or_from_slice_get, slice_get_within}
use Rattle.config_image.specs.Image.{image}
use Rattle.test_config.proofs.tests.images.words_of.Goals as goal

pub loop-i-preserved : goal.loop-i-preserved
loop-i-preserved c =
    let words = image c.args.config.now in
    let inside = slice_get_within words c.loop-i.i _ c.image_word.ensures.word_exact in
    c.in_ok-push.ensures.items
    ∙ ap (λ (ws : List ℕ). ws ++ c.image_word.result ∷ []) c.loop-i.invariant
    ∙ ap (λ (w : ℕ). take c.loop-i.i words ++ w ∷ []) (sym (get_or_from_slice_get words c.loop-i.i c.image_word.result 0 c.image_word.ensures.word_exact))
    ∙ sym (take_more words c.loop-i.i 0 inside)
