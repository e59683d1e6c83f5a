-- The sets of cells along the pass: a bit is 0 exactly where some path comes to the place without a store of the cell.
use Rattle.std.proofs.Common.{◌≡◌, ◌+◌, ◌<◌, ◌≤◌, ◌⊎◌, List, None, Option, Some, arith, below_more, get_or, inl, inr, length, subst, ℕ}
use Rattle.std.specs.Prelude.{Contains}
use Rattle.std.specs.Int.{bit_at}
use Rattle.std.specs.List.{AllByRecursion}
use Rattle.std.proofs.lemmas.Bool.{cases_eq}
use Rattle.std.proofs.lemmas.Nat.Bits.{bit_at-zero, bit_at_ones}
use Rattle.bpf_insn.specs.declared.instruction.Insn.{Insn}
use Rattle.bpf_verify.specs.declared.TheConstants.{CELLS}
use Rattle.bpf_verify.specs.Path.{IsAt, IsStoredBefore, IsUnstored, Loads, StepsTo, Stores, StoresAt, successors}
use Rattle.bpf_verify.specs.body.Pass.{FindsCell, HasCell, NotesLoad, cells_after, joined, joined_at}
use Rattle.bpf_verify.proofs.CellLemmas.{IsAfter, IsJoined, IsSameFrom, cells_after-bit, finds_loaded_cell, joined_at-bit, length-joined, length-joined_at, loaded_cell_below, missed_cell, with_all}
use Rattle.bpf_verify.proofs.PathLemmas.{Reaches, ReachesBelow, below_reaches, nothing_arrives, path_of, path_stores_or_reaches, reaches_below}
use Rattle.bpf_verify.proofs.PlaceLemmas.{IsAt-unique}

pub record Tells (bit : ℕ) (Reached : Type 0) : Type 0 where
  pub set : bit ≡ 1 → ¬ Reached
  pub unset : bit ≡ 0 → Reached

-- ---- one place further

module _ (program : List ℕ) (cell n : ℕ) (insn : Insn) (at : IsAt program n insn) (to : ℕ) where
  -- what comes from below n + 1 comes from below n, or from n
  arrives_by : ReachesBelow program cell (n + 1) to → ReachesBelow program cell n to ⊎ (Contains (successors insn n) to × (¬ Stores insn cell) × ReachesBelow program cell n n)
  arrives_by (inl first) = inl (inl first)
  arrives_by (inr last) = elim (cases_eq last.place n) [
    | inl here ↦
        let steps : StepsTo program n to = subst (λ pc. StepsTo program pc to) here last.steps in
        let reached : Reaches program cell n = subst (Reaches program cell) here last.reached in
        let keeps : ¬ StoresAt program n cell = subst (λ pc. ¬ StoresAt program pc cell) here last.keeps in
        inr (
          subst (λ i. Contains (successors i n) to) (IsAt-unique program n steps.0 insn steps.1 at) steps.2,
          (λ stores. keeps (insn, at, stores)),
          reaches_below program cell n reached,
        )
    | inr other ↦
        let below = last.below in
        inl (inr (record { place = last.place; below = omega arith; reached = last.reached; keeps = last.keeps; steps = last.steps }))
  ]

  arrives_later : ReachesBelow program cell n to → ReachesBelow program cell (n + 1) to
  arrives_later (inl first) = inl first
  arrives_later (inr last) =
      let below = last.below in
      inr (record { place = last.place; below = omega arith; reached = last.reached; keeps = last.keeps; steps = last.steps })

  arrives_here : Contains (successors insn n) to → (¬ Stores insn cell) → ReachesBelow program cell n n → ReachesBelow program cell (n + 1) to
  arrives_here leads keeps here =
      inr (record {
        place = n;
        below = omega arith;
        reached = below_reaches program cell n n here;
        keeps = λ s. keeps (subst (λ i. Stores i cell) (IsAt-unique program n s.0 insn s.1 at) s.2);
        steps = (insn, at, leads);
      })

  tells_more : (new old after before : ℕ) → Tells old (ReachesBelow program cell n to) → Tells before (ReachesBelow program cell n n) → IsAfter after before (Stores insn cell) → IsJoined new old after (Contains (successors insn n) to) → Tells new (ReachesBelow program cell (n + 1) to)
  tells_more new old after before there here through join =
      record {
        set = λ e reached.
            let kept = join.set e in
            elim (arrives_by reached) [
              | inl earlier ↦ there.set kept.0 earlier
              | inr now ↦ elim (through.set (kept.1 now.0)) [ inl stores ↦ now.1 stores | inr before_set ↦ here.set before_set now.2 ]
            ];
        unset = λ e. elim (join.unset e) [
          | inl old_unset ↦ arrives_later (there.unset old_unset)
          | inr came ↦ let free = through.unset came.1 in arrives_here came.0 free.0 (here.unset free.1)
        ];
      }

-- ---- the sets of the places from n on

abbrev pub TellsPaths : List ℕ → ℕ → List ℕ → Type 0
TellsPaths program n stored =
    (cell to : ℕ) → cell < CELLS → n ≤ to → to < length stored → Tells (bit_at (get_or stored to 0) cell) (ReachesBelow program cell n to)

pub tells_none : (program stored : List ℕ) → get_or stored 0 0 ≡ 0 → ((to : ℕ) → 0 < to → to < length stored → get_or stored to 0 ≡ 65535) → TellsPaths program 0 stored
tells_none program stored first others cell to small later inside = elim (cases_eq to 0) [
  | inl start ↦
      let none : bit_at (get_or stored to 0) cell ≡ 0 = rw (start, first) (bit_at-zero cell) in
      record { set = λ e. absurd (omega arith); unset = λ e. inl start }
  | inr further ↦
      let some : bit_at (get_or stored to 0) cell ≡ 1 = rw (others to (omega arith) inside) (bit_at_ones 16 cell small) in
      record { set = λ e. nothing_arrives program cell to further; unset = λ e. absurd (omega arith) }
]

module _ (program : List ℕ) (n : ℕ) (stored : List ℕ) (insn : Insn) (at : IsAt program n insn) (inside : n < length stored) (tells : TellsPaths program n stored) where
  pub tells_next : AllByRecursion (λ to. to < length stored) (successors insn n) → TellsPaths program (n + 1) (joined_at (cells_after insn (get_or stored n 0)) stored (successors insn n))
  tells_next within cell to small later to_inside =
      let to_before : to < length stored = rw length-joined_at at to_inside in
      tells_more program cell n insn at to _ _ _ _
      (tells cell to small (omega arith) to_before)
      (tells cell n small (omega arith) inside)
      (cells_after-bit insn (get_or stored n 0) cell)
      (joined_at-bit (cells_after insn (get_or stored n 0)) cell stored (successors insn n) to within)

  found_is_stored : HasCell insn → FindsCell insn (get_or stored n 0) → IsStoredBefore program n
  found_is_stored has finds cell loads earlier path =
      let here = subst (λ i. Loads i cell) (IsAt-unique program n loads.0 insn loads.1 at) loads.2 in
      let set = finds_loaded_cell insn (get_or stored n 0) cell finds here in
      let small = loaded_cell_below insn cell has here in
      elim (path_stores_or_reaches program cell earlier n path) [
        | inl stores ↦ stores
        | inr reached ↦ absurd ((tells cell n small (omega arith) inside).set set (reaches_below program cell n reached))
      ]

  missed_is_unstored : HasCell insn → (¬ FindsCell insn (get_or stored n 0)) → IsUnstored program n
  missed_is_unstored has misses =
      let missed = missed_cell insn (get_or stored n 0) misses in
      let small = loaded_cell_below insn missed.0 has missed.1.loads in
      let reached = below_reaches program missed.0 n n ((tells missed.0 n small (omega arith) inside).unset missed.1.unset) in
      (missed.0, (insn, at, missed.1.loads), path_of program missed.0 n reached)

-- the same sets from n on tell the same
pub tells_same : (program : List ℕ) (n : ℕ) (stored others : List ℕ) → IsSameFrom n stored others → TellsPaths program n stored → TellsPaths program n others
tells_same program n stored others same tells cell to small later inside =
    rw (← same.values to later) (tells cell to small later (rw (same.lengths) inside))

-- a set joined with all cells stays as it is
pub tells_with_all : (program : List ℕ) (n : ℕ) (stored : List ℕ) → TellsPaths program n stored → TellsPaths program n (joined 65535 stored n)
tells_with_all program n stored tells cell to small later inside =
    let to_inside : to < length stored = rw (← length-joined 65535 stored n) inside in
    rw (with_all stored n to cell small to_inside) (tells cell to small later to_inside)

-- ---- the first load of a cell that is not stored before

-- of the places below n, the first whose cell is not stored before
abbrev pub IsFirstUnstored : List ℕ → ℕ → Option ℕ → Type 0
IsFirstUnstored program n None = (q : ℕ) → q < n → IsStoredBefore program q
IsFirstUnstored program n (Some pc) = IsUnstored program pc × ((q : ℕ) → q < pc → IsStoredBefore program q)

module _ (program : List ℕ) (n : ℕ) (stored : List ℕ) (insn : Insn) (at : IsAt program n insn) (inside : n < length stored) (tells : TellsPaths program n stored) (has : HasCell insn) where
  pub first_unstored_next : (unstored noted : Option ℕ) → IsFirstUnstored program n unstored → NotesLoad unstored insn (get_or stored n 0) n noted → IsFirstUnstored program (n + 1) noted
  first_unstored_next (Some pc) noted first notes = rw notes first
  first_unstored_next None None first notes =
      below_more (λ q. IsStoredBefore program q) n first (found_is_stored program n stored insn at inside tells has notes)
  first_unstored_next None (Some pc) first notes =
      rw notes.0 (missed_is_unstored program n stored insn at inside tells has notes.1, first)
