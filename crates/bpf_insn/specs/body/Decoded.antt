-- The fields of a word as the decoder finds them, and the result of its tests.
use Rattle.std.specs.Prelude.{◌==◌, if◌then◌else◌, Err, None, Ok, Option, Result, Some, ℕ}
use Rattle.bpf_insn.specs.declared.instruction.Insn.{Insn}
use Rattle.bpf_insn.specs.declared.instruction.WordFault.{WordFault}
use Rattle.bpf_insn.specs.declared.instruction.WordFault.TheVariants.{BadOpcode, StrayField}
use Rattle.bpf_insn.specs.declared.decoding.Decoded.{Decoded}
use Rattle.bpf_insn.specs.Table.{Uses, instruction_with, unused_sum}

abbrev pub decoded_with : Option Uses → ℕ → ℕ → ℕ → Option Decoded
decoded_with None jt jf k = None
decoded_with (Some uses) jt jf k =
    Some (record { insn = instruction_with uses jt jf k; unused_zero = (unused_sum uses jt jf k == 0) })

abbrev pub tested : Option Decoded → Result Insn WordFault
tested None = Err BadOpcode
tested (Some decoded) = if decoded.unused_zero then Ok decoded.insn else Err StrayField
