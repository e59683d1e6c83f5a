-- The code's machine beside the meaning: the array has the value of each cell that was stored.
use Rattle.std.proofs.Common.{◌≡◌, ◌∙◌, ◌+◌, ◌-◌, ◌<◌, Bool, List, None, Option, Some, add-zero, ap, arith, cond, eqb, false, get_or, get_or-set_other, get_or-set_same, inl, inr, length, refl, set, subst, sym, true, ℕ}
use Rattle.std.specs.Prelude.{slice_index}
use Rattle.std.proofs.lemmas.Bool.{cases_eq, eq-eqb, eqb-true}
use Rattle.bpf_insn.specs.declared.instruction.Insn.{Insn}
use Rattle.bpf_insn.specs.declared.instruction.Insn.TheVariants.{Alu, CopyFromX, CopyToX, Jump, JumpIf, LoadAbsolute, LoadCell, LoadConstant, LoadIndexed, LoadLength, LoadXCell, LoadXConstant, LoadXHeader, LoadXLength, Negate, ReturnA, ReturnConstant, Store, StoreX}
use Rattle.bpf_insn.specs.declared.instruction.Size.TheVariants.{Byte}
use Rattle.bpf_machine.specs.declared.execute.TheConstants.{CELL_COUNT}
use Rattle.bpf_verify.specs.Path.{IsAt}
use Rattle.bpf_verify.specs.Accepted.{IsAccepted}
use Rattle.bpf_verify.specs.body.Pass.{HasCell}
use Rattle.bpf_machine.specs.Meaning.{Cells, Effect, Ret, Run, Stuck, a_or_end, a_or_stuck, computed, effect, ends, goes_on, header_length, no_cells, one_more, operand_value, run_after, with_cell, x_or_end, x_or_stuck}
use Rattle.bpf_machine.specs.body.ArrayMachine.{ArrayEffect, array_effect}
use Rattle.bpf_machine.specs.body.ArrayMachine as array
use Rattle.bpf_machine.specs.body.Running.{Holds, IsRunning, after_steps, run_from}
use Rattle.bpf_machine.specs.Packet.{packet_number}
use Rattle.bpf_machine.proofs.RunLemmas.{run_from-ends, run_from-goes_on}
use Rattle.bpf_machine.proofs.SafeLemmas.{safe_first, safe_next, safe_not_stuck}

-- the two effects are one, but where the meaning is stuck
pub data Agrees : Effect → ArrayEffect → Type 0 where
  both_go_on : {dropped a x : ℕ} {cells : Cells} {numbers : List ℕ} → Holds cells numbers → Agrees (goes_on dropped a x cells) (array.goes_on dropped a x numbers)
  both_end : {value : ℕ} → Agrees (ends (Ret value)) (array.ends value)
  stuck : {other : ArrayEffect} → Agrees (ends Stuck) other

module _ (cells : Cells) (numbers : List ℕ) (hold : Holds cells numbers) where
  a_or_end-agrees : (loaded : Option ℕ) (x : ℕ) → Agrees (a_or_end loaded x cells) (array.a_or_end loaded x numbers)
  a_or_end-agrees None x = both_end
  a_or_end-agrees (Some number) x = both_go_on hold

  x_or_end-agrees : (loaded : Option ℕ) (a : ℕ) → Agrees (x_or_end loaded a cells) (array.x_or_end loaded a numbers)
  x_or_end-agrees None a = both_end
  x_or_end-agrees (Some number) a = both_go_on hold

  a_or_stuck-agrees : (loaded : Option ℕ) (x there : ℕ) → ((number : ℕ) → loaded ≡ Some number → there ≡ number) → Agrees (a_or_stuck loaded x cells) (array.goes_on 0 there x numbers)
  a_or_stuck-agrees None x there same = stuck
  a_or_stuck-agrees (Some number) x there same = rw (same number refl) (both_go_on hold)

  x_or_stuck-agrees : (loaded : Option ℕ) (a there : ℕ) → ((number : ℕ) → loaded ≡ Some number → there ≡ number) → Agrees (x_or_stuck loaded a cells) (array.goes_on 0 a there numbers)
  x_or_stuck-agrees None a there same = stuck
  x_or_stuck-agrees (Some number) a there same = rw (same number refl) (both_go_on hold)

stored_number : (test : Bool) (before : Option ℕ) (stored number : ℕ) → test ≡ true → cond test (Some stored) before ≡ Some number → stored ≡ number
stored_number true before stored number at e = cc
stored_number false before stored number at e = cc

other_number : (test : Bool) (before : Option ℕ) (stored number : ℕ) → (test ≡ true → ⊥) → cond test (Some stored) before ≡ Some number → before ≡ Some number
other_number true before stored number at e = absurd (at refl)
other_number false before stored number at e = e

Holds-with_cell : (cells : Cells) (numbers : List ℕ) (k stored : ℕ) → k < length numbers → Holds cells numbers → Holds (with_cell cells k stored) (set numbers k stored)
unfolding Holds
Holds-with_cell cells numbers k stored fits hold cell number e = elim (cases_eq cell k) [
  | inl same ↦
      let value : stored ≡ number = stored_number (eqb cell k) (cells cell) stored number (eq-eqb cell k same) e in
      let at : get_or (set numbers k stored) k 0 ≡ stored = get_or-set_same numbers k stored 0 fits in
      rw same (at ∙ value)
  | inr other ↦
      let value : cells cell ≡ Some number = other_number (eqb cell k) (cells cell) stored number (λ yes. other (eqb-true cell k yes)) e in
      let at : get_or (set numbers k stored) cell 0 ≡ get_or numbers cell 0 = get_or-set_other numbers k cell stored 0 other in
      at ∙ hold cell number value
]

holds_at : (cells : Cells) (numbers : List ℕ) → Holds cells numbers → (k number : ℕ) → cells k ≡ Some number → slice_index numbers k ≡ number
unfolding Holds
holds_at cells numbers hold k number e = hold k number e

none_holds : (numbers : List ℕ) → Holds no_cells numbers
unfolding Holds
none_holds numbers cell number e = cc

module _ (a x : ℕ) (cells : Cells) (numbers packet : List ℕ) (hold : Holds cells numbers) (size : length numbers ≡ CELL_COUNT) where
  pub effects_agree : (insn : Insn) → HasCell insn → Agrees (effect insn a x cells packet) (array_effect insn a x numbers packet)
  effects_agree (LoadAbsolute width k) cell = a_or_end-agrees cells numbers hold (packet_number packet width k) x
  effects_agree (LoadIndexed width k) cell = a_or_end-agrees cells numbers hold (packet_number packet width (x + k)) x
  effects_agree (Alu operation operand) cell = a_or_end-agrees cells numbers hold (computed operation a (operand_value operand x)) x
  effects_agree (LoadXHeader k) cell = x_or_end-agrees cells numbers hold (header_length (packet_number packet Byte k)) a
  effects_agree (LoadCell k) cell = a_or_stuck-agrees cells numbers hold (cells k) x (slice_index numbers k) (λ number e. holds_at cells numbers hold k number e)
  effects_agree (LoadXCell k) cell = x_or_stuck-agrees cells numbers hold (cells k) a (slice_index numbers k) (λ number e. holds_at cells numbers hold k number e)
  effects_agree (Store k) cell = both_go_on (Holds-with_cell cells numbers k a (omega arith) hold)
  effects_agree (StoreX k) cell = both_go_on (Holds-with_cell cells numbers k x (omega arith) hold)
  effects_agree (LoadConstant k) cell = both_go_on hold
  effects_agree LoadLength cell = both_go_on hold
  effects_agree (LoadXConstant k) cell = both_go_on hold
  effects_agree LoadXLength cell = both_go_on hold
  effects_agree Negate cell = both_go_on hold
  effects_agree CopyToX cell = both_go_on hold
  effects_agree CopyFromX cell = both_go_on hold
  effects_agree (Jump k) cell = both_go_on hold
  effects_agree (JumpIf test operand offsets) cell = both_go_on hold
  effects_agree (ReturnConstant k) cell = both_end
  effects_agree ReturnA cell = both_end

-- ---- a run at a place

more_steps : (run : Run) (steps : ℕ) → after_steps steps (one_more run) ≡ after_steps (steps + 1) run
more_steps run steps = let sum : run.1 + 1 + steps ≡ run.1 + (steps + 1) = omega arith in ap (λ (n : ℕ). (run.0, n)) sum

pub running_first : (program packet numbers : List ℕ) → IsAccepted program → IsRunning program packet 0 0 0 0 numbers
running_first program packet numbers accepted =
    let run = run_after 0 program 0 0 no_cells packet in
    record {
      cells = no_cells;
      hold = none_holds numbers;
      safe = safe_first program accepted;
      before = omega arith;
      same = ap (λ (n : ℕ). (run.0, n)) (sym (add-zero run.1));
    }

-- at the place where the program begins
pub running_begin : (program packet numbers : List ℕ) (from : ℕ) → IsAccepted program → IsRunning program packet (from - from) 0 0 0 numbers
running_begin program packet numbers from accepted =
    subst (λ (n : ℕ). IsRunning program packet n 0 0 0 numbers) (let g : 0 ≡ from - from = omega arith in g) (running_first program packet numbers accepted)

-- the same at an equal place, with as many passed over
pub running_next : (program packet : List ℕ) (pc pc' passed_over passed_over' a x : ℕ) (numbers : List ℕ) → IsRunning program packet pc passed_over a x numbers → pc ≡ pc' → passed_over ≡ passed_over' → IsRunning program packet pc' passed_over' a x numbers
running_next program packet pc pc' passed_over passed_over' a x numbers running place over =
    subst (λ (n : ℕ). IsRunning program packet n passed_over' a x numbers) place (subst (λ (n : ℕ). IsRunning program packet pc n a x numbers) over running)

module _ (program packet : List ℕ) (accepted : IsAccepted program) (pc passed_over a x : ℕ) (numbers : List ℕ) (running : IsRunning program packet pc passed_over a x numbers) (size : length numbers ≡ CELL_COUNT) (insn : Insn) (at : IsAt program pc insn) (cell : HasCell insn) where
  next_of : (does : Effect) → effect insn a x running.cells packet ≡ does → (dropped a' x' : ℕ) (numbers' : List ℕ) → Agrees does (array.goes_on dropped a' x' numbers') → IsRunning program packet (pc + 1 + dropped) (passed_over + dropped) a' x' numbers'
  next_of does e dropped a' x' numbers' (both_go_on {cells = cells'} hold) =
      let before = running.before in
      let rest = run_from program (pc + 1 + dropped) a' x' cells' packet in
      let steps : pc - passed_over + 1 ≡ pc + 1 + dropped - (passed_over + dropped) = omega arith in
      record {
        cells = cells';
        hold = hold;
        safe = safe_next program accepted pc a x running.cells packet running.safe insn at dropped a' x' cells' e;
        before = omega arith;
        same = running.same ∙ ap (after_steps (pc - passed_over)) (run_from-goes_on program pc insn at a x running.cells packet dropped a' x' cells' e)
            ∙ more_steps rest (pc - passed_over) ∙ ap (λ (n : ℕ). after_steps n rest) steps;
      }
  next_of does e dropped a' x' numbers' stuck = absurd (safe_not_stuck program accepted pc a x running.cells packet running.safe insn at e)

  end_of : (does : Effect) → effect insn a x running.cells packet ≡ does → (value : ℕ) → Agrees does (array.ends value) → run_after 0 program 0 0 no_cells packet ≡ (Ret value, pc + 1 - passed_over)
  end_of does e value both_end =
      let before = running.before in
      let sum : 1 + (pc - passed_over) ≡ pc + 1 - passed_over = omega arith in
      running.same ∙ ap (after_steps (pc - passed_over)) (run_from-ends program pc insn at a x running.cells packet (Ret value) e) ∙ ap (λ (n : ℕ). (Ret value, n)) sum
  end_of does e value stuck = absurd (safe_not_stuck program accepted pc a x running.cells packet running.safe insn at e)

  pub running_skip : (dropped a' x' : ℕ) (numbers' : List ℕ) → array_effect insn a x numbers packet ≡ array.goes_on dropped a' x' numbers' → IsRunning program packet (pc + 1 + dropped) (passed_over + dropped) a' x' numbers'
  running_skip dropped a' x' numbers' e =
      next_of (effect insn a x running.cells packet) refl dropped a' x' numbers' (rw (← e) (effects_agree a x running.cells numbers packet running.hold size insn cell))

  pub running_go_on : (a' x' : ℕ) (numbers' : List ℕ) → array_effect insn a x numbers packet ≡ array.goes_on 0 a' x' numbers' → IsRunning program packet (pc + 1) passed_over a' x' numbers'
  running_go_on a' x' numbers' e =
      subst (λ (n : ℕ). IsRunning program packet n passed_over a' x' numbers') (add-zero (pc + 1))
      (subst (λ (n : ℕ). IsRunning program packet (pc + 1 + 0) n a' x' numbers') (add-zero passed_over) (running_skip 0 a' x' numbers' e))

  pub running_end : (value : ℕ) → array_effect insn a x numbers packet ≡ array.ends value → run_after 0 program 0 0 no_cells packet ≡ (Ret value, pc + 1 - passed_over)
  running_end value e =
      end_of (effect insn a x running.cells packet) refl value (rw (← e) (effects_agree a x running.cells numbers packet running.hold size insn cell))
