-- The summary of a text of replies: how many of them are of which kind (docs/COMMANDS.md, "replay").
use Rattle.std.specs.Prelude.{◌==◌, ◌≡◌, ◌-◌, ◌^◌, if◌then◌else◌, ◌++◌, ◌∷◌, All, AllPairs, Any, Contains, List, [], codes, count_by, decimal, min, ℕ}
use Rattle.std.specs.List.{filter_map, flat_map}
use Rattle.std.specs.Cmp.Lexicographic.{slice_cmp}
use Rattle.std.specs.Ordering.{nat_cmp}
use Rattle.std.specs.declared.cmp.Ordering.TheVariants.{Less}
use Rattle.std.specs.Str.{bytes_eq}
use Rattle.control_summary.specs.Kind.{reply_kind}

-- a kind of reply, and a count of replies
pub record RowValue : Type 0 where
  pub kind : List ℕ
  pub count : ℕ

-- a byte of the first line, if there is one; else it is in no line
abbrev pub grow_line : ℕ → List (List ℕ) → List (List ℕ)
grow_line byte [] = []
grow_line byte (line ∷ rest) = (byte ∷ line) ∷ rest

-- the lines of a text: LF, which is 10, ends each; the text after the last LF is none
unfoldable pub lines_of : List ℕ → List (List ℕ)
lines_of [] = []
lines_of (byte ∷ rest) = if byte == 10 then [] ∷ lines_of rest else grow_line byte (lines_of rest)

-- their kinds, in their order; a line that has none is left out
abbrev pub kinds_in : List ℕ → List (List ℕ)
kinds_in text = filter_map reply_kind (lines_of text)

-- how often a kind is among them, up to the greatest number of 64 bits
abbrev pub times_among : List (List ℕ) → List ℕ → ℕ
times_among kinds kind = min (count_by (bytes_eq kind) kinds) (2 ^ 64 - 1)

-- a row is of a kind that is among them, and says how often it is
pub record IsRow (kinds : List (List ℕ)) (row : RowValue) : Type 0 where
  pub told : Contains kinds row.kind
  pub counted : row.count ≡ times_among kinds row.kind

-- the bytes of the first come before those of the other
abbrev pub IsBefore : RowValue → RowValue → Type 0
IsBefore one other = slice_cmp nat_cmp one.kind other.kind ≡ Less

-- the rows of kinds: one for each of them, in rising order of its bytes
pub record AreRows (kinds : List (List ℕ)) (rows : List RowValue) : Type 0 where
  pub rising : AllPairs IsBefore rows
  pub each : All (IsRow kinds) rows
  pub complete : All (λ kind. Any (λ (row : RowValue). row.kind ≡ kind) rows) kinds

-- a row as a line
abbrev pub row_text : RowValue → List ℕ
row_text row = row.kind ++ codes " " ++ decimal row.count ++ codes "\n"

-- the summary of the replies: the rows of their kinds
pub record IsSummaryOf (replies summary : List ℕ) : Type 0 where
  pub rows : List RowValue
  pub are_rows : AreRows (kinds_in replies) rows
  pub is : summary ≡ flat_map row_text rows

-- a text of replies has one summary
abbrev pub HasOneSummary : Type 0
HasOneSummary = (replies one other : List ℕ) → IsSummaryOf replies one → IsSummaryOf replies other → one ≡ other
