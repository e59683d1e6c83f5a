-- The line of the log, put together from its two parts.
use Rattle.std.proofs.Common.{◌≡◌, ◌∙◌, ◌++◌, List, ap, append_assoc, ℕ}

-- a text to which five parts were appended in two steps
pub joined : (line first last a b c d e : List ℕ) → first ≡ line ++ (a ++ (b ++ c)) → last ≡ first ++ (d ++ e)
    → last ≡ line ++ (a ++ (b ++ (c ++ (d ++ e))))
joined line first last a b c d e one two =
    two ∙ ap (λ text. text ++ (d ++ e)) one ∙ append_assoc line (a ++ (b ++ c)) (d ++ e)
    ∙ ap (λ text. line ++ text) (append_assoc a (b ++ c) (d ++ e) ∙ ap (λ text. a ++ text) (append_assoc b c (d ++ e)))
