-- A test and a JA at a place of a program, whose jumps are filled.
use Rattle.std.proofs.Common.{length, None, ◌<◌, refl, ◌≡◌, ◌∙◌, ◌∷◌, ◌+◌, Bool, List, Some, [], ap, arith, cond, drop, false, inl, subst, suc, sym, true, ℕ, ⊎_elim}
use Rattle.std.specs.Prelude.{◌&&◌, Contains, nat_lt}
use Rattle.std.proofs.lemmas.Bool.{lt-ltb}
use Rattle.bpf_insn.specs.declared.instruction.Insn.{Insn}
use Rattle.bpf_insn.specs.declared.instruction.Insn.TheVariants.{Jump, JumpIf}
use Rattle.bpf_insn.specs.declared.instruction.Offsets.{Offsets}
use Rattle.bpf_insn.specs.declared.instruction.Operand.{Operand}
use Rattle.bpf_insn.specs.declared.instruction.Test.{Test}
use Rattle.bpf_insn.specs.Table.{offsets}
use Rattle.bpf_verify.specs.Accepted.{IsFaultless, word_fault}
use Rattle.bpf_verify.specs.declared.fault.Fault.TheVariants.{JumpOutside}
use Rattle.bpf_verify.specs.Path.{IsAt, successors}
use Rattle.bpf_verify.proofs.PlaceLemmas.{IsAt-unique, contains-cons}
use Rattle.bpf_machine.specs.Meaning.{Cells, holds, mean, operand_value}
use Rattle.filter_emit.specs.declared.fixup.Side.TheVariants.{Always, WhenFalse, WhenTrue}
use Rattle.filter_emit.specs.Checks.{Checks, asks}
use Rattle.filter_emit.specs.Fixups.{LeadsTo, offset_of, shape_of}
use Rattle.filter_emit.specs.Runs.{ComesTo, IsPushed, LoadsStored}
use Rattle.filter_emit.proofs.PushedLemmas.{dropped, loads_pushed, mean_pushed, pushed_at}

module _ (program : List ℕ) (pc k to : ℕ) (at : IsAt program pc (Jump k)) (leads : to ≡ pc + 1 + k) where
  target : drop k (drop (pc + 1) program) ≡ drop to program
  target = dropped (pc + 1) k program ∙ ap (λ n. drop n program) (sym leads)

  pub jump_goes : (packet : List ℕ) (a x : ℕ) (cells : Cells) → mean (drop pc program) a x cells packet ≡ mean (drop to program) a x cells packet
  jump_goes packet a x cells = mean_pushed (Jump k) (drop (pc + 1) program) (drop pc program) (pushed_at program pc (Jump k) at) a x cells packet ∙ ap (λ l. mean l a x cells packet) target

  pub jump_loads : (d : ℕ) → LoadsStored d (drop to program) → LoadsStored d (drop pc program)
  jump_loads d ok = loads_pushed (Jump k) (drop (pc + 1) program) (drop pc program) (pushed_at program pc (Jump k) at) d d (λ cell none. absurd none) (λ cell low. inl low)
      (λ t leads'. let is : t ≡ k = ⊎_elim (λ e. let g : suc t ≡ 0 + 1 + k = e in omega arith) (λ none. let inside = none.1 in absurd (omega arith)) (contains-cons (0 + 1 + k) (suc t) [] leads') in
      subst (LoadsStored d) (sym (ap (λ m. drop m (drop (pc + 1) program)) is ∙ target)) ok)

  pub jump_comes : ComesTo (drop to program) (drop pc program)
  jump_comes = record { loads_stored = jump_loads; goes = jump_goes }

pub jump_faultless : (program : List ℕ) (pc k to : ℕ) → IsAt program pc (Jump k) → to ≡ pc + 1 + k → to < length program → IsFaultless program pc
jump_faultless program pc k to at leads inside = (
  at.0,
  at.1,
  ap (word_fault (length program) pc) at.2
      ∙ ap (λ b. cond (b && true) None (Some (JumpOutside pc))) (lt-ltb (pc + 1 + k) (length program) (omega arith)),
)

-- the shape of a JA is a JA's alone
shape_of_jump : (later : Insn) → shape_of later ≡ Jump 0 → (k : ℕ) × (later ≡ Jump k)
shape_of_jump (Jump k) e = (k, refl)
shape_of_jump (JumpIf test operand skips) e = absurd cc
shape_of_jump _ e = absurd cc

-- a JA that is filled
pub filled_jump : (program : List ℕ) (pc to : ℕ) (later : Insn) → IsAt program pc later → shape_of later ≡ Jump 0 → LeadsTo program pc Always to → (k : ℕ) × IsAt program pc (Jump k) × (to ≡ pc + 1 + k)
filled_jump program pc to later at shape leads =
    let j = shape_of_jump later shape in let here = subst (IsAt program pc) j.1 at in
    let e : Some leads.1 ≡ Some j.0 = sym leads.3 ∙ ap (offset_of Always) (IsAt-unique program pc leads.0 (Jump j.0) leads.2 here) in
    let g : leads.1 ≡ j.0 = cc in (j.0, here, leads.4 ∙ ap (λ k. pc + 1 + k) g)

-- a filled test has no fault
skips_faultless : (program : List ℕ) (pc on_yes on_no : ℕ) (test : Test) (operand : Operand) (skips : Offsets) → IsAt program pc (JumpIf test operand skips) → on_yes ≡ pc + 1 + skips.jt → on_no ≡ pc + 1 + skips.jf
    → on_yes < length program → on_no < length program → IsFaultless program pc
skips_faultless program pc on_yes on_no test operand skips at yes_is no_is yes_inside no_inside = (
  at.0,
  at.1,
  ap (word_fault (length program) pc) at.2
      ∙ (ap (λ b. cond (b && (nat_lt (pc + 1 + skips.jf) (length program) && true)) None (Some (JumpOutside pc))) (lt-ltb (pc + 1 + skips.jt) (length program) (omega arith))
      ∙ ap (λ b. cond (true && (b && true)) None (Some (JumpOutside pc))) (lt-ltb (pc + 1 + skips.jf) (length program) (omega arith))),
)

-- the shape of a test is a test's alone
shape_of_test : (later : Insn) (test : Test) (operand : Operand) → shape_of later ≡ JumpIf test operand (offsets 0 0) → (skips : Offsets) × (later ≡ JumpIf test operand skips)
shape_of_test (JumpIf test' operand' skips) test operand e = (skips, cc)
shape_of_test (Jump k) test operand e = absurd cc
shape_of_test _ test operand e = absurd cc

module _ (program : List ℕ) (pc on_yes on_no : ℕ) (test : Test) (operand : Operand) (later : Insn) (at : IsAt program pc later) (shape : shape_of later ≡ JumpIf test operand (offsets 0 0))
    (leads_yes : LeadsTo program pc WhenTrue on_yes) (leads_no : LeadsTo program pc WhenFalse on_no) where
  skips : Offsets
  skips = (shape_of_test later test operand shape).0

  is_test : later ≡ JumpIf test operand skips
  unfolding skips shape_of_test
  is_test = (shape_of_test later test operand shape).1

  here : IsAt program pc (JumpIf test operand skips)
  here = subst (IsAt program pc) is_test at

  yes_is : on_yes ≡ pc + 1 + skips.jt
  yes_is = let e = ap (offset_of WhenTrue) (IsAt-unique program pc leads_yes.0 (JumpIf test operand skips) leads_yes.2 here) in
      let f : Some leads_yes.1 ≡ Some skips.jt = sym leads_yes.3 ∙ e in let g : leads_yes.1 ≡ skips.jt = cc in leads_yes.4 ∙ ap (λ k. pc + 1 + k) g

  no_is : on_no ≡ pc + 1 + skips.jf
  no_is = let e = ap (offset_of WhenFalse) (IsAt-unique program pc leads_no.0 (JumpIf test operand skips) leads_no.2 here) in
      let f : Some leads_no.1 ≡ Some skips.jf = sym leads_no.3 ∙ e in let g : leads_no.1 ≡ skips.jf = cc in leads_no.4 ∙ ap (λ k. pc + 1 + k) g

  pushed : IsPushed (JumpIf test operand skips) (drop (pc + 1) program) (drop pc program)
  pushed = pushed_at program pc (JumpIf test operand skips) here

  to_yes : drop skips.jt (drop (pc + 1) program) ≡ drop on_yes program
  to_yes = dropped (pc + 1) skips.jt program ∙ ap (λ n. drop n program) (sym yes_is)

  to_no : drop skips.jf (drop (pc + 1) program) ≡ drop on_no program
  to_no = dropped (pc + 1) skips.jf program ∙ ap (λ n. drop n program) (sym no_is)

  by_holds : (b : Bool) (packet : List ℕ) (a x : ℕ) (cells : Cells) → mean (drop (cond b skips.jt skips.jf) (drop (pc + 1) program)) a x cells packet ≡ mean (cond b (drop on_yes program) (drop on_no program)) a x cells packet
  by_holds true packet a x cells = ap (λ l. mean l a x cells packet) to_yes
  by_holds false packet a x cells = ap (λ l. mean l a x cells packet) to_no

  two_ways : (d : ℕ) → LoadsStored d (drop on_yes program) → LoadsStored d (drop on_no program) → (t : ℕ) → Contains (successors (JumpIf test operand skips) 0) (suc t) → LoadsStored d (drop t (drop (pc + 1) program))
  two_ways d first second t leads = ⊎_elim
      (λ e. let is : t ≡ skips.jt = let g : suc t ≡ 0 + 1 + skips.jt = e in omega arith in subst (LoadsStored d) (sym (ap (λ m. drop m (drop (pc + 1) program)) is ∙ to_yes)) first)
      (λ more. ⊎_elim
      (λ e. let is : t ≡ skips.jf = let g : suc t ≡ 0 + 1 + skips.jf = e in omega arith in subst (LoadsStored d) (sym (ap (λ m. drop m (drop (pc + 1) program)) is ∙ to_no)) second)
      (λ none. let inside = none.1 in absurd (omega arith)) (contains-cons (0 + 1 + skips.jf) (suc t) [] more))
      (contains-cons (0 + 1 + skips.jt) (suc t) ((0 + 1 + skips.jf) ∷ []) leads)

  pub test_checks : Checks (λ a. a) (asks test operand) (drop on_yes program) (drop on_no program) (drop pc program)
  test_checks = record {
    loads_stored = λ d first second. loads_pushed (JumpIf test operand skips) (drop (pc + 1) program) (drop pc program) pushed d d (λ cell none. absurd none) (λ cell low. inl low) (two_ways d first second);
    goes = λ packet a x cells. mean_pushed (JumpIf test operand skips) (drop (pc + 1) program) (drop pc program) pushed a x cells packet ∙ by_holds (holds test a (operand_value operand x)) packet a x cells;
  }

  pub test_faultless : on_yes < length program → on_no < length program → IsFaultless program pc
  test_faultless = skips_faultless program pc on_yes on_no test operand skips here yes_is no_is
