-- The lines that read words.
use Rattle.std.proofs.Common.{◌≡◌, ◌∙◌, ◌++◌, ◌∷◌, ◌<◌, ◌^◌, List, None, Option, Some, [], arith, codes, decimal, refl, ℕ}
use Rattle.std.specs.Prelude.{IfSome}
use Rattle.std.proofs.lemmas.Grind.{common_steps}
use Rattle.ipv4_fields.specs.declared.endpoint.Endpoint.{Endpoint}
use Rattle.ipv4_fields.specs.Endpoint.{IsEndpoint, endpoint_text}
use Rattle.control_line.specs.Request.{Spells, read, spaced}
use Rattle.control_rules.specs.body.Lines.{owner_text, words_reading}

words_spaced : (key : Endpoint) (owner : Option ℕ) (place : ℕ) →
    codes "words " ++ endpoint_text key ++ codes " " ++ owner_text owner ++ codes " " ++ decimal place
    ≡ spaced (codes "words" ∷ endpoint_text key ∷ owner_text owner ∷ decimal place ∷ [])
words_spaced key owner place = grind (arith, common_steps)

pub words_spelled : (key : Endpoint) (owner : Option ℕ) (place : ℕ) (line : List ℕ) → IsEndpoint key → IfSome owner (λ id. id < 2 ^ 32) → place < 2 ^ 32 →
    line ≡ codes "words " ++ endpoint_text key ++ codes " " ++ owner_text owner ++ codes " " ++ decimal place → Spells line (read (words_reading key owner place))
words_spelled key None place line is fits low text =
    (codes "words" ∷ endpoint_text key ∷ codes "selector" ∷ decimal place ∷ [], text ∙ words_spaced key None place, (is, low, refl))
words_spelled key (Some id) place line is fits low text =
    (codes "words" ∷ endpoint_text key ∷ decimal id ∷ decimal place ∷ [], text ∙ words_spaced key (Some id) place, (is, fits, low, refl))
