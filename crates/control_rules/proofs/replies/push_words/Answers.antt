use Rattle.std.proofs.Common.{◌∙◌, ◌++◌, ◌∷◌, [], ap, append-nil, append_assoc, refl, sym, rules}
use Rattle.control_rules.proofs.WordLemmas.{spelled_push}
use Rattle.control_rules.proofs.replies.push_words.Goals as goal

pub loop-word-init : goal.loop-word-init
loop-word-init c = ([], [], tt, refl, sym (append-nil c.args.words.now.items))

pub loop-word-preserved : goal.loop-word-preserved
loop-word-preserved c =
    let (gone, more, spelled, fields, words) = c.loop-word.invariant in
    let (field, is, next) = c.in-Some.ensures in (
      gone ++ field ∷ [],
      more ++ c.in-Some.word ∷ [],
      spelled_push gone more field c.in-Some.word spelled is,
      fields ∙ ap (λ rest. gone ++ rest) next ∙ sym (append_assoc gone (field ∷ []) c.digits.new.self),
      (search rules) ∙ ap (λ rest. rest ++ c.in-Some.word ∷ []) words ∙ append_assoc c.args.words.now.items more (c.in-Some.word ∷ []),
    )
