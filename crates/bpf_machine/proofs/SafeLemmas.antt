-- A run of an accepted program stays safe: it comes along a path, and each cell that the path stored has a value.
use Rattle.std.proofs.Common.{◌≡◌, ◌∙◌, ◌⊎◌, ◌∷◌, ◌++◌, ◌+◌, ◌-◌, ◌<◌, ◌≤◌, Bool, IsSome, List, None, Option, Some, [], ap, arith, cond, eqb, false, inl, inr, length, refl, subst, suc, sym, true, zero, ℕ}
use Rattle.std.specs.Prelude.{Contains, slice_get}
use Rattle.std.proofs.lemmas.Bool.{eq-eqb}
use Rattle.bpf_insn.specs.declared.instruction.Insn.{Insn}
use Rattle.bpf_insn.specs.declared.instruction.Insn.TheVariants.{Alu, CopyFromX, CopyToX, Jump, JumpIf, LoadAbsolute, LoadCell, LoadConstant, LoadIndexed, LoadLength, LoadXCell, LoadXConstant, LoadXHeader, LoadXLength, Negate, ReturnA, ReturnConstant, Store, StoreX}
use Rattle.bpf_insn.specs.declared.instruction.Size.TheVariants.{Byte}
use Rattle.bpf_insn.specs.Word.{IsInstructionWord}
use Rattle.bpf_insn.proofs.WordLemmas.{instruction_of-sound}
use Rattle.bpf_verify.specs.Path.{IsAt, IsStoredOn, Loads, Stores, StoresAt, program_at, successors}
use Rattle.bpf_verify.specs.Accepted.{IsAccepted, instruction_fault}
use Rattle.bpf_verify.specs.body.Pass.{HasCell}
use Rattle.bpf_verify.proofs.CellLemmas.{has_cell}
use Rattle.bpf_verify.proofs.PathLemmas.{IsPath-append}
use Rattle.bpf_verify.proofs.PlaceLemmas.{IsAt-unique, faultless_at, length-program_at, slice_get-program_at, successors_inside}
use Rattle.bpf_machine.specs.Meaning.{Cells, Effect, IsSound, Ret, Run, Stuck, a_or_end, a_or_stuck, computed, effect, ends, goes_on, header_length, holds, no_cells, one_more, operand_value, with_cell, x_or_end, x_or_stuck}
use Rattle.bpf_machine.specs.Packet.{packet_number}
use Rattle.bpf_machine.specs.body.Running.{IsSafe, run_from}
use Rattle.bpf_machine.proofs.RunLemmas.{run_from-ends, run_from-goes_on}

-- ---- the instruction that the code fetches

pub instruction_word : (words : List ℕ) (from len pc word : ℕ) → from + len ≤ length words → pc < len → IsAccepted (program_at words from len) → slice_get words (from + pc) ≡ Some word → IsInstructionWord word
instruction_word words from len pc word within inside accepted at =
    let size = length-program_at words from len within in
    let here = slice_get-program_at words from len pc within inside ∙ at in
    let known = faultless_at (program_at words from len) pc word (accepted.faultless pc (omega arith)) here in
    (instruction_of-sound word known.insn known.read).0

faultless_of : (program : List ℕ) (pc : ℕ) (insn : Insn) → IsAccepted program → pc < length program → IsAt program pc insn → instruction_fault (length program) pc insn ≡ None
faultless_of program pc insn accepted inside at =
    let known = faultless_at program pc at.0 (accepted.faultless pc inside) at.1 in
    let same : insn ≡ known.insn = IsAt-unique program pc insn known.insn at (at.0, at.1, known.read) in
    rw same known.faultless

pub instruction_cell : (words : List ℕ) (from len pc : ℕ) (insn : Insn) → from + len ≤ length words → pc < len → IsAccepted (program_at words from len) → IsAt (program_at words from len) pc insn → HasCell insn
instruction_cell words from len pc insn within inside accepted at =
    let size = length-program_at words from len within in
    has_cell (length (program_at words from len)) pc insn (faultless_of (program_at words from len) pc insn accepted (omega arith) at)

-- ---- what one instruction does to the cells, and where it goes on

-- it goes on at a successor, and each cell that had a value or that it stores has a value
pub record Moves (insn : Insn) (pc dropped : ℕ) (cells cells' : Cells) : Type 0 where
  pub leads : Contains (successors insn pc) (pc + 1 + dropped)
  pub valued : (cell : ℕ) → Stores insn cell ⊎ IsSome (cells cell) → IsSome (cells' cell)

at_head : (next to : ℕ) (others : List ℕ) → to ≡ next → Contains (next ∷ others) to
at_head next to others e = (0, omega arith, sym e)

kept : (cells cells' : Cells) → cells ≡ cells' → (cell : ℕ) → ⊥ ⊎ IsSome (cells cell) → IsSome (cells' cell)
kept cells cells' same cell (inl never) = absurd never
kept cells cells' same cell (inr valued) = subst (λ (c : Cells). IsSome (c cell)) same valued

some_if_valued : (test : Bool) (before : Option ℕ) (number : ℕ) → IsSome before → IsSome (cond test (Some number) before)
some_if_valued true before number valued = refl
some_if_valued false before number valued = valued

some_if_stored : (test : Bool) (before : Option ℕ) (number : ℕ) → test ≡ true → IsSome (cond test (Some number) before)
some_if_stored true before number e = refl
some_if_stored false before number e = cc

stored : (k number : ℕ) (cells cells' : Cells) → with_cell cells k number ≡ cells' → (cell : ℕ) → (k ≡ cell) ⊎ IsSome (cells cell) → IsSome (cells' cell)
stored k number cells cells' same cell (inl here) = subst (λ (c : Cells). IsSome (c cell)) same (some_if_stored (eqb cell k) (cells cell) number (eq-eqb cell k (sym here)))
stored k number cells cells' same cell (inr valued) = subst (λ (c : Cells). IsSome (c cell)) same (some_if_valued (eqb cell k) (cells cell) number valued)

taken : (pc jt jf dropped : ℕ) (test : Bool) → cond test jt jf ≡ dropped → Contains ((pc + 1 + jt) ∷ (pc + 1 + jf) ∷ []) (pc + 1 + dropped)
taken pc jt jf dropped true e = (0, omega arith, ap (λ n. pc + 1 + n) e)
taken pc jt jf dropped false e = (1, omega arith, ap (λ n. pc + 1 + n) e)

module _ (dropped a' x' : ℕ) (cells' : Cells) where
  -- the effect drops as many words, and leaves these cells
  abbrev Leaves : ℕ → Cells → Type 0
  Leaves n cells = (n ≡ dropped) × (cells ≡ cells')

  leaves : (n a x : ℕ) (cells : Cells) → goes_on n a x cells ≡ goes_on dropped a' x' cells' → Leaves n cells
  leaves n a x cells e = (cc, cc)

  a_or_end-leaves : (loaded : Option ℕ) (x : ℕ) (cells : Cells) → a_or_end loaded x cells ≡ goes_on dropped a' x' cells' → Leaves 0 cells
  a_or_end-leaves None x cells e = cc
  a_or_end-leaves (Some number) x cells e = (cc, cc)

  x_or_end-leaves : (loaded : Option ℕ) (a : ℕ) (cells : Cells) → x_or_end loaded a cells ≡ goes_on dropped a' x' cells' → Leaves 0 cells
  x_or_end-leaves None a cells e = cc
  x_or_end-leaves (Some number) a cells e = (cc, cc)

  a_or_stuck-leaves : (loaded : Option ℕ) (x : ℕ) (cells : Cells) → a_or_stuck loaded x cells ≡ goes_on dropped a' x' cells' → Leaves 0 cells
  a_or_stuck-leaves None x cells e = cc
  a_or_stuck-leaves (Some number) x cells e = (cc, cc)

  x_or_stuck-leaves : (loaded : Option ℕ) (a : ℕ) (cells : Cells) → x_or_stuck loaded a cells ≡ goes_on dropped a' x' cells' → Leaves 0 cells
  x_or_stuck-leaves None a cells e = cc
  x_or_stuck-leaves (Some number) a cells e = (cc, cc)

  module _ (pc a x : ℕ) (cells : Cells) (packet : List ℕ) where
    falls : Leaves 0 cells → Contains ((pc + 1) ∷ []) (pc + 1 + dropped)
    falls left = let none = left.0 in at_head (pc + 1) (pc + 1 + dropped) [] (omega arith)

    pub effect-moves : (insn : Insn) → effect insn a x cells packet ≡ goes_on dropped a' x' cells' → Moves insn pc dropped cells cells'
    effect-moves (LoadAbsolute size k) e = let left = a_or_end-leaves (packet_number packet size k) x cells e in record { leads = falls left; valued = kept cells cells' left.1 }
    effect-moves (LoadIndexed size k) e = let left = a_or_end-leaves (packet_number packet size (x + k)) x cells e in record { leads = falls left; valued = kept cells cells' left.1 }
    effect-moves (LoadConstant k) e = let left = leaves 0 _ _ cells e in record { leads = falls left; valued = kept cells cells' left.1 }
    effect-moves (LoadCell k) e = let left = a_or_stuck-leaves (cells k) x cells e in record { leads = falls left; valued = kept cells cells' left.1 }
    effect-moves LoadLength e = let left = leaves 0 _ _ cells e in record { leads = falls left; valued = kept cells cells' left.1 }
    effect-moves (LoadXConstant k) e = let left = leaves 0 _ _ cells e in record { leads = falls left; valued = kept cells cells' left.1 }
    effect-moves (LoadXCell k) e = let left = x_or_stuck-leaves (cells k) a cells e in record { leads = falls left; valued = kept cells cells' left.1 }
    effect-moves LoadXLength e = let left = leaves 0 _ _ cells e in record { leads = falls left; valued = kept cells cells' left.1 }
    effect-moves (LoadXHeader k) e = let left = x_or_end-leaves (header_length (packet_number packet Byte k)) a cells e in record { leads = falls left; valued = kept cells cells' left.1 }
    effect-moves (Store k) e = let left = leaves 0 _ _ (with_cell cells k a) e in let none = left.0 in record { leads = at_head (pc + 1) (pc + 1 + dropped) [] (omega arith); valued = stored k a cells cells' left.1 }
    effect-moves (StoreX k) e = let left = leaves 0 _ _ (with_cell cells k x) e in let none = left.0 in record { leads = at_head (pc + 1) (pc + 1 + dropped) [] (omega arith); valued = stored k x cells cells' left.1 }
    effect-moves (Alu operation operand) e = let left = a_or_end-leaves (computed operation a (operand_value operand x)) x cells e in record { leads = falls left; valued = kept cells cells' left.1 }
    effect-moves Negate e = let left = leaves 0 _ _ cells e in record { leads = falls left; valued = kept cells cells' left.1 }
    effect-moves CopyToX e = let left = leaves 0 _ _ cells e in record { leads = falls left; valued = kept cells cells' left.1 }
    effect-moves CopyFromX e = let left = leaves 0 _ _ cells e in record { leads = falls left; valued = kept cells cells' left.1 }
    effect-moves (Jump k) e = let left = leaves k _ _ cells e in record { leads = at_head (pc + 1 + k) (pc + 1 + dropped) [] (ap (λ n. pc + 1 + n) (sym left.0)); valued = kept cells cells' left.1 }
    effect-moves (JumpIf test operand offsets) e =
        let left = leaves _ _ _ cells e in
        record { leads = taken pc offsets.jt offsets.jf dropped (holds test a (operand_value operand x)) left.0; valued = kept cells cells' left.1 }
    effect-moves (ReturnConstant k) e = cc
    effect-moves ReturnA e = cc

-- ---- never stuck

a_or_end-not_stuck : (loaded : Option ℕ) (x : ℕ) (cells : Cells) → a_or_end loaded x cells ≡ ends Stuck → ⊥
a_or_end-not_stuck None x cells e = let end : Ret 0 ≡ Stuck = cc in cc
a_or_end-not_stuck (Some number) x cells e = cc

x_or_end-not_stuck : (loaded : Option ℕ) (a : ℕ) (cells : Cells) → x_or_end loaded a cells ≡ ends Stuck → ⊥
x_or_end-not_stuck None a cells e = let end : Ret 0 ≡ Stuck = cc in cc
x_or_end-not_stuck (Some number) a cells e = cc

a_or_stuck-valued : (loaded : Option ℕ) (x : ℕ) (cells : Cells) → a_or_stuck loaded x cells ≡ ends Stuck → IsSome loaded → ⊥
a_or_stuck-valued None x cells e valued = cc
a_or_stuck-valued (Some number) x cells e valued = cc

x_or_stuck-valued : (loaded : Option ℕ) (a : ℕ) (cells : Cells) → x_or_stuck loaded a cells ≡ ends Stuck → IsSome loaded → ⊥
x_or_stuck-valued None a cells e valued = cc
x_or_stuck-valued (Some number) a cells e valued = cc

-- an instruction is stuck only at a cell without a value
effect-not_stuck : (insn : Insn) (a x : ℕ) (cells : Cells) (packet : List ℕ) → ((cell : ℕ) → Loads insn cell → IsSome (cells cell)) → effect insn a x cells packet ≡ ends Stuck → ⊥
effect-not_stuck (LoadAbsolute size k) a x cells packet valued e = a_or_end-not_stuck (packet_number packet size k) x cells e
effect-not_stuck (LoadIndexed size k) a x cells packet valued e = a_or_end-not_stuck (packet_number packet size (x + k)) x cells e
effect-not_stuck (LoadConstant k) a x cells packet valued e = cc
effect-not_stuck (LoadCell k) a x cells packet valued e = a_or_stuck-valued (cells k) x cells e (valued k refl)
effect-not_stuck LoadLength a x cells packet valued e = cc
effect-not_stuck (LoadXConstant k) a x cells packet valued e = cc
effect-not_stuck (LoadXCell k) a x cells packet valued e = x_or_stuck-valued (cells k) a cells e (valued k refl)
effect-not_stuck LoadXLength a x cells packet valued e = cc
effect-not_stuck (LoadXHeader k) a x cells packet valued e = x_or_end-not_stuck (header_length (packet_number packet Byte k)) a cells e
effect-not_stuck (Store k) a x cells packet valued e = cc
effect-not_stuck (StoreX k) a x cells packet valued e = cc
effect-not_stuck (Alu operation operand) a x cells packet valued e = a_or_end-not_stuck (computed operation a (operand_value operand x)) x cells e
effect-not_stuck Negate a x cells packet valued e = cc
effect-not_stuck CopyToX a x cells packet valued e = cc
effect-not_stuck CopyFromX a x cells packet valued e = cc
effect-not_stuck (Jump k) a x cells packet valued e = cc
effect-not_stuck (JumpIf test operand offsets) a x cells packet valued e = cc
effect-not_stuck (ReturnConstant k) a x cells packet valued e = let end : Ret k ≡ Stuck = cc in cc
effect-not_stuck ReturnA a x cells packet valued e = let end : Ret a ≡ Stuck = cc in cc

-- ---- along a path

IsStoredOn-append : (program : List ℕ) (pc cell : ℕ) (earlier : List ℕ) → IsStoredOn program (earlier ++ pc ∷ []) cell → StoresAt program pc cell ⊎ IsStoredOn program earlier cell
IsStoredOn-append program pc cell [] (inl here) = inl here
IsStoredOn-append program pc cell [] (inr none) = absurd none
IsStoredOn-append program pc cell (place ∷ places) (inl first) = inr (inl first)
IsStoredOn-append program pc cell (place ∷ places) (inr later) = elim (IsStoredOn-append program pc cell places later) [ inl here ↦ inl here | inr before ↦ inr (inr before) ]

pub safe_first : (program : List ℕ) → IsAccepted program → IsSafe program 0 no_cells
safe_first program accepted =
    record { inside = accepted.not_empty; earlier = []; path = (refl, tt); valued = λ cell stored. absurd stored }

module _ (program : List ℕ) (accepted : IsAccepted program) (pc a x : ℕ) (cells : Cells) (packet : List ℕ) (safe : IsSafe program pc cells) (insn : Insn) (at : IsAt program pc insn) where
  pub safe_not_stuck : effect insn a x cells packet ≡ ends Stuck → ⊥
  safe_not_stuck stuck =
      effect-not_stuck insn a x cells packet
      (λ cell loads. safe.valued cell (accepted.stores_before pc cell (insn, at, loads) safe.earlier safe.path))
      stuck

  pub safe_next : (dropped a' x' : ℕ) (cells' : Cells) → effect insn a x cells packet ≡ goes_on dropped a' x' cells' → IsSafe program (pc + 1 + dropped) cells'
  safe_next dropped a' x' cells' goes =
      let moves = effect-moves dropped a' x' cells' pc a x cells packet insn goes in
      record {
        inside = successors_inside program accepted pc insn (pc + 1 + dropped) at (faultless_of program pc insn accepted safe.inside at) moves.leads;
        earlier = safe.earlier ++ pc ∷ [];
        path = IsPath-append program safe.earlier pc (pc + 1 + dropped) safe.path (insn, at, moves.leads);
        valued = λ cell on. elim (IsStoredOn-append program pc cell safe.earlier on) [
          | inl here ↦ moves.valued cell (inl (subst (λ i. Stores i cell) (IsAt-unique program pc here.0 insn here.1 at) here.2))
          | inr before ↦ moves.valued cell (inr (safe.valued cell before))
        ];
      }

-- ---- soundness

-- the run does not end stuck, and meets at most n words
abbrev pub IsFine : Run → ℕ → Type 0
IsFine run n = (run.0 ≡ Stuck → ⊥) × (run.1 ≤ n)

fine_more : (run : Run) (n m : ℕ) → IsFine run n → n + 1 ≤ m → IsFine (one_more run) m
fine_more run n m fine within = (fine.0, let met = fine.1 in omega arith)

module _ (program packet : List ℕ) (accepted : IsAccepted program) where
  known : (pc : ℕ) → pc < length program → (insn : Insn) × IsAt program pc insn
  known pc inside =
      let here = accepted.faultless pc inside in
      let instruction = faultless_at program pc here.0 here here.1 in
      (instruction.insn, (here.0, here.1, instruction.read))

  -- of runs that begin at most so far from the program's end
  abbrev FineWithin : ℕ → Type 0
  FineWithin distance =
      (pc a x : ℕ) (cells : Cells) → length program ≤ pc + distance → IsSafe program pc cells → IsFine (run_from program pc a x cells packet) (length program - pc)

  fine_step : (distance pc a x : ℕ) (cells : Cells) → FineWithin distance → length program ≤ pc + suc distance → (safe : IsSafe program pc cells) (insn : Insn) (at : IsAt program pc insn) (does : Effect) → effect insn a x cells packet ≡ does → IsFine (run_from program pc a x cells packet) (length program - pc)
  fine_step distance pc a x cells further near safe insn at (ends (Ret value)) e =
      let inside = safe.inside in rw (run_from-ends program pc insn at a x cells packet (Ret value) e) (λ stuck. cc, omega arith)
  fine_step distance pc a x cells further near safe insn at (ends Stuck) e =
      absurd (safe_not_stuck program accepted pc a x cells packet safe insn at e)
  fine_step distance pc a x cells further near safe insn at (goes_on dropped a' x' cells') e =
      let next = safe_next program accepted pc a x cells packet safe insn at dropped a' x' cells' e in
      let inside = next.inside in
      rw (run_from-goes_on program pc insn at a x cells packet dropped a' x' cells' e)
      (fine_more _ (length program - (pc + 1 + dropped)) (length program - pc)
      (further (pc + 1 + dropped) a' x' cells' (omega arith) next) (omega arith))

  fine_within : (distance : ℕ) → FineWithin distance
  fine_within zero pc a x cells near safe = let inside = safe.inside in absurd (omega arith)
  fine_within (suc distance) pc a x cells near safe =
      let instruction = known pc safe.inside in
      fine_step distance pc a x cells (fine_within distance) near safe instruction.0 instruction.1 (effect instruction.0 a x cells packet) refl

  pub fine_from : (pc a x : ℕ) (cells : Cells) → IsSafe program pc cells → IsFine (run_from program pc a x cells packet) (length program - pc)
  fine_from pc a x cells safe = fine_within (length program) pc a x cells (omega arith) safe

pub is_sound : (program packet : List ℕ) → IsAccepted program → IsSound program packet
is_sound program packet accepted =
    let fine = fine_from program packet accepted 0 0 0 no_cells (safe_first program accepted) in
    record { never_stuck = fine.0; within_length = let met = fine.1 in omega arith }
