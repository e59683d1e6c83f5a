-- The verdict in a reply (docs/COMMANDS.md, "replay").
use Rattle.std.specs.Prelude.{◌==◌, if◌then◌else◌, ◌++◌, ◌∷◌, Bool, List, None, Option, Some, [], codes, ℕ}
use Rattle.std.specs.List.{list_any}
use Rattle.std.specs.Str.{bytes_eq}

-- the byte is the first word's first
abbrev pub grow_first : ℕ → List (List ℕ) → List (List ℕ)
grow_first byte [] = (byte ∷ []) ∷ []
grow_first byte (first ∷ rest) = (byte ∷ first) ∷ rest

-- the words of a reply: a space, which is 32, parts two of them
unfoldable pub words_of : List ℕ → List (List ℕ)
words_of [] = [] ∷ []
words_of (byte ∷ rest) = if byte == 32 then [] ∷ words_of rest else grow_first byte (words_of rest)

-- the verdicts that name no member, and those that name one by the group's key and the member's ID
abbrev pub names_alone : List (List ℕ)
names_alone = codes "malformed" ∷ codes "nogroup" ∷ codes "nomembers" ∷ []

abbrev pub names_of_member : List (List ℕ)
names_of_member = codes "dropped" ∷ codes "deliver" ∷ []

abbrev pub is_among : List (List ℕ) → List ℕ → Bool
is_among names word = list_any (bytes_eq word) names

-- words, and a space between two
abbrev pub first_three : List (List ℕ) → Option (List ℕ)
first_three (name ∷ key ∷ id ∷ behind) = Some (name ++ codes " " ++ key ++ codes " " ++ id)
first_three _ = None

-- the verdict that words begin with
unfoldable pub verdict_at : List (List ℕ) → Option (List ℕ)
verdict_at [] = None
verdict_at (name ∷ behind) =
    if is_among names_alone name then Some name else if is_among names_of_member name then first_three (name ∷ behind) else None

-- a reply to a packet is `version`, a number, and the verdict
unfoldable pub verdict_in : List (List ℕ) → Option (List ℕ)
verdict_in (first ∷ number ∷ verdict) = if bytes_eq first (codes "version") then verdict_at verdict else None
verdict_in _ = None

-- the verdict in a reply, or `None`
abbrev pub verdict_of : List ℕ → Option (List ℕ)
verdict_of reply = verdict_in (words_of reply)
