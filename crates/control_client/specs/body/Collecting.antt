-- Lines that are added to a request, each after an LF, and their numbers to a list.
use Rattle.std.specs.Prelude.{◌≡◌, ◌<◌, ◌++◌, ◌∷◌, ◌⊎◌, Bool, List, None, Option, Some, [], false, length, true, ℕ}
use Rattle.control_line.specs.Answer.{NumberedLine}
use Rattle.control_line.specs.Block.{after_line_feeds}
use Rattle.control_client.specs.Lines.{numbers_of, texts_of}

-- the text and the numbers that lines were added to
pub record Collected : Type 0 where
  pub text : List ℕ
  pub numbers : List ℕ

-- these lines were added
pub record Adds (lines : List NumberedLine) (start end : Collected) : Type 0 where
  pub text : end.text ≡ start.text ++ after_line_feeds (texts_of lines)
  pub numbers : end.numbers ≡ start.numbers ++ numbers_of lines

-- these lines were given, and added
pub record AreAdded (lines before after : List NumberedLine) (start end : Collected) : Type 0 where
  pub given : before ≡ lines ++ after
  pub added : Adds lines start end

-- a known line was given, and added; or there was none, and nothing was added
abbrev pub AddsLine : Option (List NumberedLine) → Option (List NumberedLine) → Collected → Collected → Bool → Type 0
AddsLine None after start end some = Unit {0}
AddsLine (Some before) None start end some = ⊥
AddsLine (Some before) (Some after) start end true = (line : NumberedLine) × AreAdded (line ∷ []) before after start end
AddsLine (Some before) (Some after) start end false = (before ≡ []) × (after ≡ []) × (end ≡ start)

-- so many known lines were given, and added
abbrev pub AddsSome : ℕ → Option (List NumberedLine) → Option (List NumberedLine) → Collected → Collected → Type 0
AddsSome count None after start end = Unit {0}
AddsSome count (Some before) None start end = ⊥
AddsSome count (Some before) (Some after) start end =
    (lines : List NumberedLine) × AreAdded lines before after start end × (length lines ≡ count)

-- so many, or all that were left if they were fewer
abbrev pub AddsUpTo : ℕ → Option (List NumberedLine) → Option (List NumberedLine) → Collected → Collected → Type 0
AddsUpTo most None after start end = Unit {0}
AddsUpTo most (Some before) None start end = ⊥
AddsUpTo most (Some before) (Some after) start end =
    (lines : List NumberedLine) × AreAdded lines before after start end × ((length lines ≡ most) ⊎ ((length lines < most) × (after ≡ [])))

-- all of them, which are so many
abbrev pub AddsAll : ℕ → Option (List NumberedLine) → Collected → Collected → Type 0
AddsAll count None start end = Unit {0}
AddsAll count (Some before) start end = Adds before start end × (length before ≡ count)
