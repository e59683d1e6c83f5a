-- Scratch cells of an instruction, and sets of cells as the bits of a number.
use Rattle.std.proofs.Common.{◌≡◌, ◌+◌, ◌∙◌, ◌<◌, ◌≤◌, ◌^◌, ◌∷◌, ◌⊎◌, List, None, [], ap, arith, get_or, get_or-set_other, get_or-set_same, inl, inr, length, length-set, refl, suc, sym, ℕ}
use Rattle.std.specs.Prelude.{Contains, bit_and, bit_or}
use Rattle.std.specs.Int.{bit_at}
use Rattle.std.specs.List.{AllByRecursion}
use Rattle.std.proofs.lemmas.Bool.{cases_eq, ltb-true}
use Rattle.std.proofs.lemmas.Nat.Bits.{bit_at-lt, bit_at-pow_other, bit_at-pow_same, bit_at_and, bit_at_ones, bit_at_or}
use Rattle.bpf_insn.specs.declared.instruction.Insn.{Insn}
use Rattle.bpf_insn.specs.declared.instruction.Insn.TheVariants.{LoadCell, LoadXCell, Store, StoreX}
use Rattle.bpf_verify.specs.declared.TheConstants.{CELLS}
use Rattle.bpf_verify.specs.Path.{Loads, Stores}
use Rattle.bpf_verify.specs.Accepted.{instruction_fault}
use Rattle.bpf_verify.specs.body.Pass.{FindsCell, HasCell, cells_after, joined, joined_at}
use Rattle.bpf_verify.proofs.PlaceLemmas.{contains-cons, true_from_none}

-- ---- the cell of an instruction

pub has_cell : (len pc : ℕ) (insn : Insn) → instruction_fault len pc insn ≡ None → HasCell insn
has_cell len pc (LoadCell k) none = ltb-true k CELLS (true_from_none _ _ none)
has_cell len pc (LoadXCell k) none = ltb-true k CELLS (true_from_none _ _ none)
has_cell len pc (Store k) none = ltb-true k CELLS (true_from_none _ _ none)
has_cell len pc (StoreX k) none = ltb-true k CELLS (true_from_none _ _ none)
has_cell len pc _ none = tt

pub loaded_cell_below : (insn : Insn) (cell : ℕ) → HasCell insn → Loads insn cell → cell < CELLS
loaded_cell_below (LoadCell k) cell has loads = rw (← loads) has
loaded_cell_below (LoadXCell k) cell has loads = rw (← loads) has
loaded_cell_below _ cell has loads = absurd loads

pub finds_loaded_cell : (insn : Insn) (before cell : ℕ) → FindsCell insn before → Loads insn cell → bit_at before cell ≡ 1
finds_loaded_cell (LoadCell k) before cell finds loads = rw (← loads) finds
finds_loaded_cell (LoadXCell k) before cell finds loads = rw (← loads) finds
finds_loaded_cell _ before cell finds loads = absurd loads

-- the cell that is loaded and not in the set
pub record IsMissedBy (insn : Insn) (before cell : ℕ) : Type 0 where
  pub loads : Loads insn cell
  pub unset : bit_at before cell ≡ 0

unset_bit : (before cell : ℕ) → (¬ (bit_at before cell ≡ 1)) → bit_at before cell ≡ 0
unset_bit before cell missed = let bit = bit_at-lt before cell in omega arith

pub missed_cell : (insn : Insn) (before : ℕ) → (¬ FindsCell insn before) → (cell : ℕ) × IsMissedBy insn before cell
missed_cell (LoadCell k) before missed = (k, record { loads = refl; unset = unset_bit before k missed })
missed_cell (LoadXCell k) before missed = (k, record { loads = refl; unset = unset_bit before k missed })
missed_cell _ before missed = absurd (missed tt)

-- ---- the set after an instruction

-- the bit after the instruction, by the one before it
pub record IsAfter (after before : ℕ) (Stored : Type 0) : Type 0 where
  pub set : after ≡ 1 → Stored ⊎ (before ≡ 1)
  pub unset : after ≡ 0 → (¬ Stored) × (before ≡ 0)

or_bit : (k before cell : ℕ) → IsAfter (bit_at (bit_or before (2 ^ k)) cell) (bit_at before cell) (k ≡ cell)
or_bit k before cell =
    let either = bit_at_or before (2 ^ k) cell in
    elim (cases_eq k cell) [
      | inl same ↦
          let one : bit_at (2 ^ k) cell ≡ 1 = rw (← same) (bit_at-pow_same k) in
          record { set = λ e. inl same; unset = λ e. absurd (omega arith) }
      | inr other ↦
          let none : bit_at (2 ^ k) cell ≡ 0 = bit_at-pow_other k cell (λ e. other (sym e)) in
          record { set = λ e. inr (omega arith); unset = λ e. (other, omega arith) }
    ]

kept_bit : (bit : ℕ) → IsAfter bit bit ⊥
kept_bit bit = record { set = λ e. inr e; unset = λ e. (λ none. none, e) }

pub cells_after-bit : (insn : Insn) (before cell : ℕ) → IsAfter (bit_at (cells_after insn before) cell) (bit_at before cell) (Stores insn cell)
cells_after-bit (Store k) before cell = or_bit k before cell
cells_after-bit (StoreX k) before cell = or_bit k before cell
cells_after-bit _ before cell = kept_bit (bit_at before cell)

-- ---- sets joined at places

-- the bit of a place, by the one before and that of the set that came, if one came
pub record IsJoined (new old after : ℕ) (Comes : Type 0) : Type 0 where
  pub set : new ≡ 1 → (old ≡ 1) × (Comes → after ≡ 1)
  pub unset : new ≡ 0 → (old ≡ 0) ⊎ (Comes × (after ≡ 0))

pub length-joined : (after : ℕ) (stored : List ℕ) (at : ℕ) → length (joined after stored at) ≡ length stored
length-joined after stored at = length-set stored at _

pub joined-here : (after : ℕ) (stored : List ℕ) (at : ℕ) → at < length stored → get_or (joined after stored at) at 0 ≡ bit_and (get_or stored at 0) after
joined-here after stored at inside = get_or-set_same stored at (bit_and (get_or stored at 0) after) 0 inside

pub joined-other : (after : ℕ) (stored : List ℕ) (at to : ℕ) → (to ≡ at → ⊥) → get_or (joined after stored at) to 0 ≡ get_or stored to 0
joined-other after stored at to other = get_or-set_other stored at to (bit_and (get_or stored at 0) after) 0 other

module _ (after cell : ℕ) where
  joined-bit : (stored : List ℕ) (at to : ℕ) → at < length stored → IsJoined (bit_at (get_or (joined after stored at) to 0) cell) (bit_at (get_or stored to 0) cell) (bit_at after cell) (to ≡ at)
  joined-bit stored at to inside = elim (cases_eq to at) [
    | inl same ↦
        let both : get_or (joined after stored at) at 0 ≡ bit_and (get_or stored at 0) after = joined-here after stored at inside in
        let least = bit_at_and (get_or stored at 0) after cell in
        let old = bit_at-lt (get_or stored at 0) cell in
        let new = bit_at-lt after cell in
        rw (same, both) (record {
          set = λ e. (omega arith, λ comes. omega arith);
          unset = λ e. elim (cases_eq (bit_at after cell) 0) [ inl none ↦ inr (refl, none) | inr some ↦ inl (omega arith) ];
        })
    | inr other ↦
        let kept : get_or (joined after stored at) to 0 ≡ get_or stored to 0 = joined-other after stored at to other in
        rw kept (record { set = λ e. (e, λ comes. absurd (other comes)); unset = λ e. inl e })
  ]

  pub joined_at-bit : (stored : List ℕ) (places : List ℕ) (to : ℕ) → AllByRecursion (λ q. q < length stored) places → IsJoined (bit_at (get_or (joined_at after stored places) to 0) cell) (bit_at (get_or stored to 0) cell) (bit_at after cell) (Contains places to)
  joined_at-bit stored [] to inside = record { set = λ e. (e, λ comes. let none = comes.1 in absurd (omega arith)); unset = λ e. inl e }
  joined_at-bit stored (at ∷ places) to inside =
      let first = joined-bit stored at to inside.0 in
      let rest = joined_at-bit (joined after stored at) places to (rw (length-joined after stored at) inside.1) in
      record {
        set = λ e.
            let mid = rest.set e in
            let old = first.set mid.0 in
            (old.0, λ comes. elim (contains-cons at to places comes) [ inl here ↦ old.1 here | inr later ↦ mid.1 later ]);
        unset = λ e. elim (rest.unset e) [
          | inl mid ↦ elim (first.unset mid) [ inl old ↦ inl old | inr came ↦ inr ((0, omega arith, sym came.0), came.1) ]
          | inr came ↦ inr ((suc came.0.0, omega arith, came.0.2), came.1)
        ];
      }

pub length-joined_at : (after : ℕ) (stored places : List ℕ) → length (joined_at after stored places) ≡ length stored
length-joined_at after stored [] = refl
length-joined_at after stored (at ∷ places) = length-joined_at after (joined after stored at) places ∙ length-set stored at _

-- ---- the same sets from a place on

pub record IsSameFrom (n : ℕ) (stored others : List ℕ) : Type 0 where
  pub lengths : length stored ≡ length others
  pub values : (to : ℕ) → n ≤ to → get_or stored to 0 ≡ get_or others to 0

module _ (after n : ℕ) where
  pub same-joined : (stored others : List ℕ) (at : ℕ) → at < length stored → IsSameFrom n stored others → IsSameFrom n (joined after stored at) (joined after others at)
  same-joined stored others at inside same =
      record {
        lengths = length-joined after stored at ∙ same.lengths ∙ sym (length-joined after others at);
        values = λ to later. elim (cases_eq to at) [
          | inl here ↦
              let values = same.values at (rw here at later) in
              rw (here, joined-here after stored at inside, joined-here after others at (rw same.lengths at inside), values) refl
          | inr other ↦ joined-other after stored at to other ∙ same.values to later ∙ sym (joined-other after others at to other)
        ];
      }

  pub same-joined_at : (stored others places : List ℕ) → AllByRecursion (λ to. to < length stored) places → IsSameFrom n stored others → IsSameFrom n (joined_at after stored places) (joined_at after others places)
  same-joined_at stored others [] inside same = same
  same-joined_at stored others (at ∷ places) inside same =
      same-joined_at (joined after stored at) (joined after others at) places
      (rw (length-joined after stored at) inside.1)
      (same-joined stored others at inside.0 same)

-- behind the place at which a set is joined nothing changes
pub same_behind : (after : ℕ) (stored : List ℕ) (at : ℕ) → IsSameFrom (at + 1) (joined after stored at) stored
same_behind after stored at =
    record { lengths = length-joined after stored at; values = λ to later. joined-other after stored at to (λ here. omega arith) }

-- a set joined with all cells has the cells that it had
pub with_all : (stored : List ℕ) (at to cell : ℕ) → cell < CELLS → to < length stored → bit_at (get_or (joined 65535 stored at) to 0) cell ≡ bit_at (get_or stored to 0) cell
with_all stored at to cell small inside = elim (cases_eq to at) [
  | inl here ↦
      let both = joined-here 65535 stored to inside in
      let least = bit_at_and (get_or stored to 0) 65535 cell in
      let some : bit_at 65535 cell ≡ 1 = bit_at_ones 16 cell small in
      let old = bit_at-lt (get_or stored to 0) cell in
      rw (← here, both) (omega arith)
  | inr other ↦ ap (λ set. bit_at set cell) (joined-other 65535 stored at to other)
]
