-- The kind of a reply: the verdict on a packet, or the code of a refusal (docs/COMMANDS.md, "replay" and "Refusals").
use Rattle.std.specs.Prelude.{if◌then◌else◌, ◌++◌, ◌∷◌, List, None, Option, Some, [], codes, ℕ}
use Rattle.std.specs.Option.{option_or}
use Rattle.std.specs.Str.{bytes_eq}
use Rattle.control_summary.specs.Verdict.{verdict_of, words_of}

-- two words, and a space between them
abbrev pub first_two : List (List ℕ) → Option (List ℕ)
first_two (name ∷ code ∷ behind) = Some (name ++ codes " " ++ code)
first_two _ = None

-- a refusal is `refused`, its code, and a number after some codes
unfoldable pub refusal_in : List (List ℕ) → Option (List ℕ)
refusal_in [] = None
refusal_in (first ∷ behind) = if bytes_eq first (codes "refused") then first_two (first ∷ behind) else None

-- `refused` and the code in a reply, or `None`
abbrev pub refusal_of : List ℕ → Option (List ℕ)
refusal_of reply = refusal_in (words_of reply)

-- the kind of a reply: its verdict, or else its refusal; other replies have none
abbrev pub reply_kind : List ℕ → Option (List ℕ)
reply_kind reply = option_or (verdict_of reply) (refusal_of reply)
