-- The pass over the places: what it knows of those that it has met, and what follows at its end.
use Rattle.std.proofs.Common.{◌≡◌, ◌+◌, ◌-◌, ◌<◌, ◌≤◌, ◌∙◌, ◌↔◌, Bool, IsTrue, List, None, Ok, Option, Some, arith, below_more, bit_and, false, get_or, length, refl, subst, true, ℕ}
use Rattle.std.specs.Prelude.{slice_get}
use Rattle.std.specs.Int.Bits.{and_zero_r}
use Rattle.std.proofs.lemmas.Option.{slice_get_within}
use Rattle.bpf_insn.specs.declared.instruction.Insn.{Insn}
use Rattle.bpf_insn.specs.declared.instruction.Insn.TheVariants.{JumpIf, ReturnConstant}
use Rattle.bpf_insn.specs.declared.instruction.Offsets.{Offsets}
use Rattle.bpf_insn.specs.Word.{instruction_of}
use Rattle.bpf_verify.specs.declared.TheConstants.{MAX_INSTRUCTIONS}
use Rattle.bpf_verify.specs.Path.{IsAt, IsReturn, successors}
use Rattle.bpf_verify.specs.Accepted.{IsAccepted, IsFaultless, IsFaultlessBelow, instruction_fault, targets_fault}
use Rattle.bpf_verify.specs.body.Pass.{FindsCell, IsChecked, IsFaultlessInstruction, NotesLoad, cells_after, joined, joined_at}
use Rattle.bpf_verify.specs.body.Plain.{IsBranch, IsPlain, targets}
use Rattle.bpf_verify.proofs.CellLemmas.{IsSameFrom, has_cell, joined-here, joined-other, length-joined, same-joined, same-joined_at, same_behind}
use Rattle.bpf_verify.proofs.PlaceLemmas.{successors_below}
use Rattle.bpf_verify.proofs.StoredLemmas.{IsFirstUnstored, TellsPaths, first_unstored_next, tells_next, tells_none, tells_same, tells_with_all}

-- the flag tells whether the instruction at pc is a return
pub record TellsReturn (program : List ℕ) (pc : ℕ) (returns : Bool) : Type 0 where
  pub insn : Insn
  pub at : IsAt program pc insn
  pub tells : IsTrue returns ↔ IsReturn insn

-- the places below n have no fault, the flag is that of the last of them, the sets tell of the paths through them, and the
-- first load among them of a cell that is not stored before is noted
pub record IsPassed (program : List ℕ) (n : ℕ) (stored : List ℕ) (unstored : Option ℕ) (returns : Bool) : Type 0 where
  pub faultless : IsFaultlessBelow program n
  pub last : 0 < n → TellsReturn program (n - 1) returns
  pub tells : TellsPaths program n stored
  pub first : IsFirstUnstored program n unstored

-- of the sets that the pass keeps, the one of its place is joined with what goes on from the place before: at first no cell
pub passed_none : (program stored : List ℕ) (returns : Bool) → 0 < length stored → ((to : ℕ) → to < length stored → get_or stored to 0 ≡ 65535) → IsPassed program 0 (joined 0 stored 0) None returns
passed_none program stored returns some all =
    let first : get_or (joined 0 stored 0) 0 0 ≡ 0 = joined-here 0 stored 0 some ∙ and_zero_r (get_or stored 0 0) in
    record {
      faultless = λ pc below. absurd (omega arith);
      last = λ none. absurd (omega arith);
      tells = tells_none program (joined 0 stored 0) first
          (λ to later inside. joined-other 0 stored 0 to (λ here. omega arith) ∙ all to (rw (← length-joined 0 stored 0) inside));
      first = λ q below. absurd (omega arith);
    }

passed_same : (program : List ℕ) (n : ℕ) (stored others : List ℕ) (unstored : Option ℕ) (returns : Bool) → IsSameFrom n stored others → IsPassed program n stored unstored returns → IsPassed program n others unstored returns
passed_same program n stored others unstored returns same passed =
    record { faultless = passed.faultless; last = passed.last; tells = tells_same program n stored others same passed.tells; first = passed.first }

passed_with_all : (program : List ℕ) (n : ℕ) (stored : List ℕ) (unstored : Option ℕ) (returns : Bool) → IsPassed program n stored unstored returns → IsPassed program n (joined 65535 stored n) unstored returns
passed_with_all program n stored unstored returns passed =
    record { faultless = passed.faultless; last = passed.last; tells = tells_with_all program n stored passed.tells; first = passed.first }

module _ (program : List ℕ) (n : ℕ) (stored : List ℕ) (unstored noted : Option ℕ) (before after : Bool) (insn : Insn) where
  passed_more : IsPassed program n stored unstored before → n < length program → length program < length stored → IsFaultlessInstruction program n insn → NotesLoad unstored insn (get_or stored n 0) n noted → (IsTrue after ↔ IsReturn insn) → IsPassed program (n + 1) (joined_at (cells_after insn (get_or stored n 0)) stored (successors insn n)) noted after
  passed_more passed below a_set_more here notes tells_after =
      let inside : n < length stored = omega arith in
      let within = successors_below (length program) (length stored) n insn here.1 (omega arith) (λ goes. omega arith) in
      let at : n ≡ (n + 1) - 1 = omega arith in
      let found : TellsReturn program n after = record { insn = insn; at = here.0; tells = tells_after } in
      record {
        faultless = below_more (λ pc. IsFaultless program pc) n passed.faultless (here.0.0, here.0.1, rw here.0.2 here.1);
        last = λ some. subst (λ m. TellsReturn program m after) at found;
        tells = tells_next program n stored insn here.0 inside passed.tells within;
        first = first_unstored_next program n stored insn here.0 inside passed.tells (has_cell _ _ insn here.1) unstored noted passed.first notes;
      }

notes_found : (insn : Insn) (before pc : ℕ) (unstored : Option ℕ) → FindsCell insn before → NotesLoad unstored insn before pc unstored
notes_found insn before pc (Some place) finds = refl
notes_found insn before pc None finds = finds

-- conditional jumps and returns of a constant, checked
module _ (len pc word before : ℕ) (unstored : Option ℕ) (old : List ℕ) where
  pub checked_branch : (new : List ℕ) (offsets : Offsets) → IsBranch word offsets → targets_fault len pc (targets pc offsets) ≡ None → new ≡ joined_at before old (targets pc offsets) → IsChecked len pc word before unstored old new unstored false
  checked_branch new offsets branch none joins =
      let insn = JumpIf branch.0 branch.1.0 offsets in
      record { insn = insn; read = branch.1.1; faultless = none; notes = notes_found insn before pc unstored tt; joins = joins; tells = (λ flag. cc, λ ends. absurd ends) }

  pub checked_return : (k : ℕ) → instruction_of word ≡ Ok (ReturnConstant k) → IsChecked len pc word before unstored old old unstored true
  checked_return k read =
      record { insn = ReturnConstant k; read = read; faultless = refl; notes = notes_found (ReturnConstant k) before pc unstored tt; joins = refl; tells = (λ flag. tt, λ ends. refl) }

-- one place further: the word of the place n is read
module _ (program : List ℕ) (n : ℕ) (stored : List ℕ) (carried : ℕ) (unstored : Option ℕ) (returns : Bool) (word : ℕ) (passed : IsPassed program n (joined carried stored n) unstored returns) (at : slice_get program n ≡ Some word) (a_set_more : length program < length stored) where
  below : n < length program
  below = slice_get_within program n word at

  more_sets : length program < length (joined carried stored n)
  more_sets = rw (length-joined carried stored n) a_set_more

  abbrev before : ℕ
  before = bit_and (get_or stored n 0) carried

  set_here : get_or (joined carried stored n) n 0 ≡ before
  set_here = joined-here carried stored n (omega (arith, below))

  passed_here : (insn : Insn) (noted : Option ℕ) (flag : Bool) → instruction_of word ≡ Ok insn → instruction_fault (length program) n insn ≡ None → NotesLoad unstored insn (get_or (joined carried stored n) n 0) n noted → (IsTrue flag ↔ IsReturn insn) → IsPassed program (n + 1) (joined_at (cells_after insn before) (joined carried stored n) (successors insn n)) noted flag
  passed_here insn noted flag read none notes tells =
      let step = passed_more program n (joined carried stored n) unstored noted returns flag insn passed below more_sets ((word, at, read), none) notes tells in
      subst (λ set. IsPassed program (n + 1) (joined_at (cells_after insn set) (joined carried stored n) (successors insn n)) noted flag) set_here step

  -- the word is plain
  pub passed_plain : (after : ℕ) → IsPlain word before after → IsPassed program (n + 1) (joined after stored (n + 1)) unstored false
  passed_plain after plain =
      let insn = plain.0 in
      let goes = plain.2 in
      let finds : FindsCell insn (get_or (joined carried stored n) n 0) = rw set_here goes.finds in
      let step = passed_here insn unstored false plain.1 (goes.faultless (length program) n) (notes_found insn _ n unstored finds) (λ flag. cc, λ ends. absurd (goes.no_return ends)) in
      let next : IsPassed program (n + 1) (joined after (joined carried stored n) (n + 1)) unstored false =
      rw goes.leaves (subst (λ places. IsPassed program (n + 1) (joined_at (cells_after insn before) (joined carried stored n) places) unstored false) (goes.goes_on n) step) in
      passed_same program (n + 1) _ _ unstored false
      (same-joined after (n + 1) (joined carried stored n) stored (n + 1) (omega (arith, more_sets, below)) (same_behind carried stored n))
      next

  -- the word is checked
  pub passed_checked : (new : List ℕ) (noted : Option ℕ) (flag : Bool) → IsChecked (length program) n word before unstored stored new noted flag → IsPassed program (n + 1) (joined 65535 new (n + 1)) noted flag
  passed_checked new noted flag checked =
      let within = successors_below (length program) (length (joined carried stored n)) n checked.insn checked.faultless (omega (arith, more_sets)) (λ goes. omega (arith, more_sets, below)) in
      let noted_here : NotesLoad unstored checked.insn (get_or (joined carried stored n) n 0) n noted = rw set_here checked.notes in
      let step = passed_here checked.insn noted flag checked.read checked.faultless noted_here checked.tells in
      let same = same-joined_at (cells_after checked.insn before) (n + 1) (joined carried stored n) stored (successors checked.insn n) within (same_behind carried stored n) in
      rw checked.joins (passed_with_all program (n + 1) _ noted flag (passed_same program (n + 1) _ _ noted flag same step))

-- ---- at the end

pub accepted_at_end : (program : List ℕ) (n : ℕ) (stored : List ℕ) (returns : Bool) → IsPassed program n stored None returns → n ≡ length program → 0 < n → n ≤ MAX_INSTRUCTIONS → returns ≡ true → IsAccepted program
accepted_at_end program n stored returns passed whole not_empty not_too_long flag =
    let last = rw whole at (passed.last not_empty) in
    record {
      not_empty = omega arith;
      not_too_long = omega arith;
      faultless = subst (λ m. IsFaultlessBelow program m) whole passed.faultless;
      ends_in_return = (last.insn, last.at, last.tells.0 flag);
      stores_before = λ pc cell loads.
          let inside = slice_get_within program pc loads.1.0 loads.1.1 in
          passed.first pc (omega arith) cell loads;
    }
