-- The bytes of an input that were read and are in no line yet, and the lines that are made of them.
use Rattle.std.specs.Prelude.{◌≡◌, ◌++◌, ◌∷◌, Bool, List, Option, [], false, true, ℕ}
use Rattle.std.specs.Io.KnownBytes.{prepend_known}
use Rattle.ipv4_fields.specs.Cut.{Lacks}

-- the bytes up to the first LF were added to a line, and are left no more, nor is the LF; or there is no LF, and all bytes were added
abbrev pub TakesLine : (unread unread' line line' : List ℕ) → Bool → Type 0
TakesLine unread unread' line line' true = (part : List ℕ) × Lacks 10 part × (unread ≡ part ++ 10 ∷ unread') × (line' ≡ line ++ part)
TakesLine unread unread' line line' false = Lacks 10 unread × (unread' ≡ []) × (line' ≡ line ++ unread)

-- the bytes that no line has yet, if they are known: those that were read, and those that the input still has
abbrev pub left_of : List ℕ → Option (List ℕ) → Option (List ℕ)
left_of unread coming = prepend_known unread coming
