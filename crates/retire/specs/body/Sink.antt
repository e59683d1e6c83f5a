-- What a contract sees of a row's sink.
use Rattle.std.specs.Prelude.{◌∷◌, ◌++◌, ◌+◌, ◌*◌, ◌≤◌, List, [], slice_index, suc, zero, ℕ}
use Rattle.std.specs.Borrow.{GName}
use Rattle.config_image.specs.declared.TheConstants.{ROW_WORDS}
use Rattle.read_section.specs.Operator.{OperatorValue, opened_operator}
use Rattle.retire.specs.body.Filling.{FillsFront}

-- the operator that a sink was lent as it is now, by a borrow of this name, the row, and the place that is filled next
pub record SinkValue : Type 0 where
  pub borrow : GName
  pub operator : OperatorValue
  pub row : ℕ
  pub place : ℕ

-- an operator of no table
abbrev pub no_operator : OperatorValue
no_operator = opened_operator (record { words = 0; slots = 0; views_name = 0; atom = 0; block = 0; offset = 0; slot_names = [] }) []

-- the first words of a row
abbrev pub front_of : OperatorValue → ℕ → ℕ → List ℕ
front_of operator r zero = []
front_of operator r (suc n) = front_of operator r n ++ slice_index operator.view.stored (r * ROW_WORDS + n) ∷ []

-- what a sink took: its borrow's name and its row, so that they stay, and then the words of the row
abbrev pub taken_of : SinkValue → List ℕ
taken_of sink = sink.borrow ∷ sink.row ∷ front_of sink.operator sink.row sink.place

-- since it was lent, the operator filled row r up to a place by the words that stand there, and did nothing else
pub record IsFilling (lent now : OperatorValue) (r place : ℕ) : Type 0 where
  pub inside : place ≤ ROW_WORDS
  pub fills : FillsFront lent now r (front_of now r place)
