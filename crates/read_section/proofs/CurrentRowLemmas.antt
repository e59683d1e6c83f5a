-- The row of the current version, as the operator's book tells it.
use Rattle.std.proofs.Common.{◌≡◌, ◌+◌, ◌<◌, ◌≤◌, List, arith, length, refl, slice_index, suc, zero, ℕ, ⊎_elim}
use Rattle.std.proofs.lemmas.Bool.{cases_lt}
use Rattle.std.proofs.lemmas.List.{get_or_past}
use Rattle.config_image.specs.Image.{Group}
use Rattle.versions.specs.declared.book.Book.{Book}
use Rattle.versions.specs.declared.layout.TheConstants.{ROWS}
use Rattle.versions.specs.declared.view.OperatorView.{OperatorView}
use Rattle.versions.specs.Free.{number_after}
use Rattle.versions.proofs.ListLemmas.{elem_below}
use Rattle.versions.proofs.ShapeLemmas.{rows_is}
use Rattle.read_section.specs.body.OperatorKept.{IsKeptBy}

module _ {A : Type 0} (view : OperatorView (List Group)) (config : List Group) (book : Book A) (reported : ℕ) (zeros words pages : List ℕ) (h : IsKeptBy view config book reported zeros words pages) where
  abbrev row : ℕ
  row = h.stands.row

  last_of_row : (n : ℕ) → slice_index book.last row ≡ n → number_after view.log < n → n ≡ book.number + 1
  last_of_row zero e low = absurd (omega arith)
  last_of_row (suc m) e low = let at = elem_below view.version_rows m row (h.steps_told.last_there row m e) in omega (arith, h.version_rows_length, h.steps_told.number)

  -- and there is one
  pub row_there : (row < ROWS) × (slice_index book.last row ≡ book.number + 1)
  row_there = let low = h.steps_told.below_last row (number_after view.log) h.stands.in_row in (
    (⊎_elim (λ (inside : row < length book.last). omega (arith, inside, h.steps_told.last_length, rows_is)) (λ (past : length book.last ≤ row). absurd (omega (arith, low, get_or_past book.last row 0 past))) (cases_lt row (length book.last))),
    last_of_row (slice_index book.last row) refl low,
  )
