-- Places of a program: what stands there, and where it leads.
use Rattle.std.proofs.Common.{◌+◌, ◌-◌, ◌<◌, ◌∙◌, ◌∷◌, ◌≡◌, ◌≤◌, ◌⊎◌, Bool, Err, List, None, Ok, Result, Some, [], ap, arith, cond, drop, false, get_or, inl, inr, length, length-drop, refl, subst, suc, sym, true, zero, ℕ}
use Rattle.std.specs.Prelude.{◌&&◌, Contains, nat_lt, slice_get}
use Rattle.std.specs.List.{AllByRecursion, list_all}
use Rattle.std.proofs.Math.Seq.{take-length}
use Rattle.std.proofs.lemmas.Bool.{cases_eq, ltb-true}
use Rattle.std.proofs.lemmas.Grind.{common_steps}
use Rattle.std.proofs.lemmas.List.{length-take-le}
use Rattle.std.proofs.lemmas.Option.{slice_get-get_or, slice_get_within}
use Rattle.bpf_insn.specs.Word.{instruction_of}
use Rattle.bpf_insn.specs.declared.instruction.Insn.{Insn}
use Rattle.bpf_insn.specs.declared.instruction.Insn.TheVariants.{Jump, JumpIf, ReturnA, ReturnConstant}
use Rattle.bpf_insn.specs.declared.instruction.WordFault.{WordFault}
use Rattle.bpf_insn.specs.declared.instruction.WordFault.TheVariants.{BadOpcode, StrayField}
use Rattle.bpf_verify.specs.Accepted.{IsAccepted, IsFaultless, instruction_fault, word_fault}
use Rattle.bpf_verify.specs.Path.{IsAt, IsReturn, program_at, successors}
use Rattle.bpf_verify.specs.declared.fault.Fault.{Fault}

-- ---- a program in a longer list

pub length-program_at : (words : List ℕ) (from len : ℕ) → from + len ≤ length words → length (program_at words from len) ≡ len
length-program_at words from len within = length-take-le len (drop from words) (rw length-drop (omega arith))

pub program_at-whole : (words : List ℕ) → program_at words 0 (length words) ≡ words
program_at-whole words = take-length words

pub slice_get-program_at : (words : List ℕ) (from len pc : ℕ) → from + len ≤ length words → pc < len → slice_get (program_at words from len) pc ≡ slice_get words (from + pc)
slice_get-program_at words from len pc within inside =
    let size = length-program_at words from len within in
    let element : get_or (program_at words from len) pc 0 ≡ get_or words (from + pc) 0 = grind (arith, common_steps) in
    slice_get-get_or (program_at words from len) pc 0 (omega arith)
    ∙ ap (λ word. Some word) element
    ∙ sym (slice_get-get_or words (from + pc) 0 (omega arith))

-- ---- one instruction a place

pub IsAt-unique : (program : List ℕ) (pc : ℕ) (a b : Insn) → IsAt program pc a → IsAt program pc b → a ≡ b
IsAt-unique program pc a b here there =
    let found : Some here.0 ≡ Some there.0 = sym here.1 ∙ there.1 in
    let word : here.0 ≡ there.0 = cc in
    let read : ◌≡◌ {A = Result Insn WordFault} (Ok a) (Ok b) = sym here.2 ∙ ap instruction_of word ∙ there.2 in
    cc

-- ---- a word without a fault is an instruction without one

pub record IsFaultlessAt (program : List ℕ) (pc word : ℕ) : Type 0 where
  pub insn : Insn
  pub read : instruction_of word ≡ Ok insn
  pub faultless : instruction_fault (length program) pc insn ≡ None

faultless-read : (program : List ℕ) (pc word : ℕ) (read : Result Insn WordFault) → instruction_of word ≡ read → word_fault (length program) pc read ≡ None → IsFaultlessAt program pc word
faultless-read program pc word (Ok insn) e none = record { insn = insn; read = e; faultless = none }
faultless-read program pc word (Err BadOpcode) e none = cc
faultless-read program pc word (Err StrayField) e none = cc

pub faultless_at : (program : List ℕ) (pc word : ℕ) → IsFaultless program pc → slice_get program pc ≡ Some word → IsFaultlessAt program pc word
faultless_at program pc word here at =
    let found : Some here.0 ≡ Some word = sym here.1 ∙ at in
    let same : here.0 ≡ word = cc in
    faultless-read program pc word (instruction_of word) refl (subst (λ w. word_fault (length program) pc (instruction_of w) ≡ None) same here.2)

-- ---- where an instruction leads

pub contains-cons : (y x : ℕ) (ys : List ℕ) → Contains (y ∷ ys) x → (x ≡ y) ⊎ Contains ys x
contains-cons y x ys (zero, inside, at) = inl (sym at)
contains-cons y x ys (suc k, inside, at) = inr (k, omega arith, at)

pub all_contained : (P : ℕ → Type 0) (xs : List ℕ) (x : ℕ) → AllByRecursion P xs → Contains xs x → P x
all_contained P [] x all within = let inside = within.1 in absurd (omega arith)
all_contained P (y ∷ ys) x all within = elim (contains-cons y x ys within) [
  | inl e ↦ subst P (sym e) all.0
  | inr more ↦ all_contained P ys x all.1 more
]

successors_further : (insn : Insn) (pc : ℕ) → AllByRecursion (λ to. pc < to) (successors insn pc)
successors_further (Jump k) pc = (omega arith, tt)
successors_further (JumpIf test operand offsets) pc = (omega arith, (omega arith, tt))
successors_further (ReturnConstant k) pc = tt
successors_further ReturnA pc = tt
successors_further _ pc = (omega arith, tt)

-- each successor of an instruction lies further on
pub successors_forward : (insn : Insn) (pc to : ℕ) → Contains (successors insn pc) to → pc < to
successors_forward insn pc to leads = all_contained (λ q. pc < q) (successors insn pc) to (successors_further insn pc) leads

-- ---- a faultless instruction leads to places of the program

pub true_from_none : (test : Bool) (fault : Fault) → cond test None (Some fault) ≡ None → test ≡ true
true_from_none true fault none = refl
true_from_none false fault none = cc

both_true : (left right : Bool) → (left && right) ≡ true → (left ≡ true) × (right ≡ true)
both_true true true both = (refl, refl)
both_true true false both = cc
both_true false right both = cc

targets_below : (len n : ℕ) (targets : List ℕ) → len ≤ n → list_all (λ to. nat_lt to len) targets ≡ true → AllByRecursion (λ to. to < n) targets
targets_below len n [] fits all = tt
targets_below len n (to ∷ targets) fits all =
    let both = both_true (nat_lt to len) _ all in
    let below = ltb-true to len both.0 in
    (omega arith, targets_below len n targets fits both.1)

pub successors_below : (len n pc : ℕ) (insn : Insn) → instruction_fault len pc insn ≡ None → len ≤ n → ((¬ IsReturn insn) → pc + 1 < n) → AllByRecursion (λ to. to < n) (successors insn pc)
successors_below len n pc (Jump k) none fits next = targets_below len n (successors (Jump k) pc) fits (true_from_none _ _ none)
successors_below len n pc (JumpIf test operand offsets) none fits next =
    targets_below len n (successors (JumpIf test operand offsets) pc) fits (true_from_none _ _ none)
successors_below len n pc (ReturnConstant k) none fits next = tt
successors_below len n pc ReturnA none fits next = tt
successors_below len n pc _ none fits next = (next (λ returns. returns), tt)

module _ (program : List ℕ) (accepted : IsAccepted program) (pc : ℕ) where
  next_inside : (insn : Insn) → IsAt program pc insn → (¬ IsReturn insn) → pc + 1 < length program
  next_inside insn at goes = elim (cases_eq (pc + 1) (length program)) [
    | inl last ↦
        let ends = accepted.ends_in_return in
        let place : length program - 1 ≡ pc = omega arith in
        absurd (goes (subst IsReturn (IsAt-unique program pc _ _ (subst (λ n. IsAt program n ends.0) place ends.1) at) ends.2))
    | inr other ↦ let inside = slice_get_within program pc at.0 at.1 in omega arith
  ]

  -- each successor of an instruction is a place of the program
  pub successors_inside : (insn : Insn) (to : ℕ) → IsAt program pc insn → instruction_fault (length program) pc insn ≡ None → Contains (successors insn pc) to → to < length program
  successors_inside insn to at none leads =
      all_contained (λ q. q < length program) (successors insn pc) to
      (successors_below (length program) (length program) pc insn none (omega arith) (next_inside insn at)) leads
