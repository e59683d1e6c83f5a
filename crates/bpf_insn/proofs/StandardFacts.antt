-- Worked words of the standard's instructions, so that a slip in a definition does not check.
use Rattle.std.specs.Prelude.{◌≡◌, Err, Ok, refl}
use Rattle.bpf_insn.specs.declared.instruction.Insn.TheVariants.{JumpIf, LoadAbsolute, ReturnConstant}
use Rattle.bpf_insn.specs.declared.instruction.Size.TheVariants.{Byte}
use Rattle.bpf_insn.specs.declared.instruction.Operand.TheVariants.{K}
use Rattle.bpf_insn.specs.declared.instruction.Test.TheVariants.{Equal}
use Rattle.bpf_insn.specs.declared.instruction.WordFault.TheVariants.{BadOpcode, StrayField}
use Rattle.bpf_insn.specs.Table.{table, uses_of}
use Rattle.bpf_insn.specs.Word.{instruction_of}

ldb_9 : instruction_of 0x0030_0000_0000_0009 ≡ Ok (LoadAbsolute Byte 9)
unfolding instruction_of uses_of table
ldb_9 = refl

jeq_17_0_1 : instruction_of 0x0015_0001_0000_0011 ≡ Ok (JumpIf Equal (K 17) (record { jt = 0; jf = 1 }))
unfolding instruction_of uses_of table
jeq_17_0_1 = refl

ret_65535 : instruction_of 0x0006_0000_0000_ffff ≡ Ok (ReturnConstant 65535)
unfolding instruction_of uses_of table
ret_65535 = refl

-- the extended instruction set's exit
no_exit : instruction_of 0x0095_0000_0000_0000 ≡ Err BadOpcode
unfolding instruction_of uses_of table
no_exit = refl

ldb_uses_no_jump : instruction_of 0x0030_0001_0000_0009 ≡ Err StrayField
unfolding instruction_of uses_of table
ldb_uses_no_jump = refl
