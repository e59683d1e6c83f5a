-- Words of conditional jumps and of returns, read as instructions.
use Rattle.std.proofs.Common.{◌≡◌, ◌+◌, ◌/◌, ◌^◌, Ok, Some, arith, refl, ℕ}
use Rattle.bpf_insn.specs.declared.instruction.Insn.TheVariants.{JumpIf, ReturnConstant}
use Rattle.bpf_insn.specs.declared.instruction.Operand.TheVariants.{K, X}
use Rattle.bpf_insn.specs.declared.instruction.Test.{Test}
use Rattle.bpf_insn.specs.Table.{offsets, table, uses_of}
use Rattle.bpf_insn.specs.Word.{code_of, constant_of, false_jump_of, instruction_of, true_jump_of}
use Rattle.bpf_verify.specs.body.Plain.{uses_constant_test, uses_x_test}

module _ (w : ℕ) (test : Test) where
  pub constant_test-read : uses_of (code_of w) ≡ Some (uses_constant_test test) → instruction_of w ≡ Ok (JumpIf test (K (constant_of w)) (offsets (true_jump_of w) (false_jump_of w)))
  unfolding instruction_of
  constant_test-read known = rw known refl

  pub x_test-read : uses_of (code_of w) ≡ Some (uses_x_test test) → constant_of w ≡ 0 → instruction_of w ≡ Ok (JumpIf test X (offsets (true_jump_of w) (false_jump_of w)))
  unfolding instruction_of
  x_test-read known zero = rw (known, zero) refl

pub return-read : (w : ℕ) → w / 2 ^ 32 ≡ 0x60000 → instruction_of w ≡ Ok (ReturnConstant (constant_of w))
unfolding instruction_of uses_of table
return-read w front =
    let code : code_of w ≡ 6 = omega arith in
    let unused : true_jump_of w + false_jump_of w ≡ 0 = omega arith in
    rw (code, unused) refl
