-- The state after replies that were put in pieces.
use Rattle.std.specs.Prelude.{◌≡◌, ◌++◌, ◌<◌, List, length, slice_index_or, ℕ}
use Rattle.std.specs.List.{AllWithin}
use Rattle.ipv4_fields.specs.Cut.{Lacks}
use Rattle.control_summary.specs.Summary.{AreRows, RowValue, lines_of, kinds_in}
use Rattle.std.specs.Cmp.Lexicographic.{slice_cmp}
use Rattle.std.specs.Ordering.{nat_cmp}
use Rattle.std.specs.declared.cmp.Ordering.TheVariants.{Greater, Less}

-- the lines of a text that goes on after this one are its own and those of the rest
abbrev pub EndsLines : List ℕ → Type 0
EndsLines text = (rest : List ℕ) → lines_of (text ++ rest) ≡ lines_of text ++ lines_of rest

-- the last line of the text, which has not ended, is kept, and the others are counted
pub record IsAt (text held : List ℕ) (rows : List RowValue) : Type 0 where
  pub done : List ℕ
  pub is : text ≡ done ++ held
  pub ends : EndsLines done
  pub lacks : Lacks 10 held
  pub counted : AreRows (kinds_in done) rows

-- the rows in front of a place come before the kind, and the rows after it come after the kind
abbrev pub AreBelow : List RowValue → ℕ → List ℕ → Type 0
AreBelow rows high kind = AllWithin (λ (row : RowValue). slice_cmp nat_cmp row.kind kind ≡ Less) rows 0 high

abbrev pub AreAbove : List RowValue → ℕ → List ℕ → Type 0
AreAbove rows low kind = AllWithin (λ (row : RowValue). slice_cmp nat_cmp row.kind kind ≡ Greater) rows low (length rows)

-- the row at this place is the kind's
abbrev pub IsPlaceOf : List RowValue → List ℕ → ℕ → Type 0
IsPlaceOf rows kind place = (place < length rows) × ((none : RowValue) → (slice_index_or rows place none).kind ≡ kind)
