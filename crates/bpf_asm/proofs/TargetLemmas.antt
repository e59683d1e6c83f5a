-- Targets: an instruction has one offset by each, and a fault exactly where it has none.
use Rattle.std.proofs.Common.{◌≡◌, ◌∙◌, ◌+◌, ◌-◌, ◌≤◌, List, None, Option, Some, [], ap, arith, nat_le, refl, sym, ◌∷◌, ℕ}
use Rattle.std.proofs.lemmas.Bool.{cond-false, cond-true, le-leb, lt-leb}
use Rattle.bpf_insn.specs.declared.instruction.Insn.{Insn}
use Rattle.bpf_insn.specs.declared.instruction.Insn.TheVariants.{Jump, JumpIf}
use Rattle.bpf_insn.specs.Table.{offsets}
use Rattle.bpf_insn.specs.Word.{word_of}
use Rattle.bpf_asm.specs.declared.fault.AsmFault.TheVariants.{BackwardJump, TooFar}
use Rattle.bpf_asm.specs.Statement.{Line, Statement, Target, branch, goes_to, jump, plain, skips}
use Rattle.bpf_asm.specs.Target.{FARTHEST, FARTHEST_BRANCH, IsCode, IsInsnOf, IsOffset, count_of, first_of, place_fault, statement_fault, statements_of, target_fault, targets_fault, with_statement}

module _ (places : List ℕ → Option ℕ) where
  -- ---- one value

  one_offset : (pc a b : ℕ) (target : Target) → IsOffset places pc target a → IsOffset places pc target b → a ≡ b
  one_offset pc a b (skips k) first second = first ∙ sym second
  one_offset pc a b (goes_to name) first second = let same : pc + 1 + a ≡ pc + 1 + b = cc in omega arith

  one_insn : (pc : ℕ) (statement : Statement) (a b : Insn) → IsInsnOf places pc statement a → IsInsnOf places pc statement b → a ≡ b
  one_insn pc (plain insn) a b first second = first ∙ sym second
  one_insn pc (jump target) a b (k, is, small, insn) (k', is', small', insn') =
      insn ∙ ap Jump (one_offset pc k k' target is is') ∙ sym insn'
  one_insn pc (branch test right on_true on_false) a b (jt, jf, is, small, other, less, insn) (jt', jf', is', small', other', less', insn') =
      insn
      ∙ ap (λ it. JumpIf test right (offsets it jf)) (one_offset pc jt jt' on_true is is')
      ∙ ap (λ it. JumpIf test right (offsets jt' it)) (one_offset pc jf jf' on_false other other')
      ∙ sym insn'

  pub one_code : (pc : ℕ) (statements : List Statement) (a b : List ℕ) → IsCode places pc statements a → IsCode places pc statements b → a ≡ b
  one_code pc [] a b first second = first ∙ sym second
  one_code pc (statement ∷ statements) a b (insn, rest, is, own, later) (insn', rest', is', own', later') =
      let same = one_insn pc statement insn insn' own own' in
      let others = one_code (pc + 1) statements rest rest' later later' in
      is ∙ ap (λ it. word_of it ∷ rest) same ∙ ap (λ left. word_of insn' ∷ left) others ∙ sym is'

  -- ---- no fault where there is a value

  pub no_target_fault : (pc most n offset : ℕ) (target : Target) → IsOffset places pc target offset → offset ≤ most → target_fault places pc most n target ≡ None
  no_target_fault pc most n offset (skips k) is small = cond-true (nat_le k most) None (Some (TooFar n)) (le-leb k most (omega arith))
  no_target_fault pc most n offset (goes_to name) is small =
      ap (place_fault pc most n) is
      ∙ cond-false (nat_le (pc + 1 + offset) pc) (Some (BackwardJump n)) _ (lt-leb (pc + 1 + offset) pc (omega arith))
      ∙ cond-true (nat_le (pc + 1 + offset - (pc + 1)) most) None (Some (TooFar n)) (le-leb (pc + 1 + offset - (pc + 1)) most (omega arith))

  pub no_statement_fault : (pc n : ℕ) (statement : Statement) (insn : Insn) → IsInsnOf places pc statement insn → statement_fault places pc n (Some statement) ≡ None
  no_statement_fault pc n (plain insn) it own = refl
  no_statement_fault pc n (jump target) it (k, is, small, insn) = no_target_fault pc FARTHEST n k target is small
  no_statement_fault pc n (branch test right on_true on_false) it (jt, jf, is, small, other, less, insn) =
      ap (λ first. first_of first (target_fault places pc FARTHEST_BRANCH n on_false)) (no_target_fault pc FARTHEST_BRANCH n jt on_true is small)
      ∙ no_target_fault pc FARTHEST_BRANCH n jf on_false other less

  no_fault_later : (pc n : ℕ) (statement : Option Statement) (lines : List Line) (words : List ℕ) → ((pc' : ℕ) (others : List ℕ) → IsCode places pc' (statements_of lines) others → targets_fault places pc' (n + 1) lines ≡ None) → IsCode places pc (with_statement statement (statements_of lines)) words → first_of (statement_fault places pc n statement) (targets_fault places (pc + count_of statement) (n + 1) lines) ≡ None
  no_fault_later pc n None lines words later code = ap (λ place. targets_fault places place (n + 1) lines) (omega arith) ∙ later pc words code
  no_fault_later pc n (Some statement) lines words later (insn, rest, is, own, code) =
      ap (λ first. first_of first (targets_fault places (pc + 1) (n + 1) lines)) (no_statement_fault pc n statement insn own) ∙ later (pc + 1) rest code

  pub no_targets_fault : (lines : List Line) (pc n : ℕ) (words : List ℕ) → IsCode places pc (statements_of lines) words → targets_fault places pc n lines ≡ None
  no_targets_fault [] pc n words code = refl
  no_targets_fault (line ∷ lines) pc n words code =
      no_fault_later pc n line.statement lines words (λ pc' others. no_targets_fault lines pc' (n + 1) others) code
