-- The effect of one instruction's code: its scratch memory is a whole array, without a mark of the cells that were stored.
use Rattle.std.specs.Prelude.{◌+◌, ◌-◌, ◌%◌, ◌^◌, if◌then◌else◌, List, None, Option, Some, length, slice_index, slice_set, ℕ}
use Rattle.bpf_insn.specs.declared.instruction.Insn.{Insn}
use Rattle.bpf_insn.specs.declared.instruction.Insn.TheVariants.{Alu, CopyFromX, CopyToX, Jump, JumpIf, LoadAbsolute, LoadCell, LoadConstant, LoadIndexed, LoadLength, LoadXCell, LoadXConstant, LoadXHeader, LoadXLength, Negate, ReturnA, ReturnConstant, Store, StoreX}
use Rattle.bpf_insn.specs.declared.instruction.Size.TheVariants.{Byte}
use Rattle.bpf_machine.specs.Meaning.{computed, header_length, holds, operand_value}
use Rattle.bpf_machine.specs.Packet.{packet_number}

pub data ArrayEffect : Type 0 where
  goes_on : (dropped a x : ℕ) (cells : List ℕ) → ArrayEffect
  ends : ℕ → ArrayEffect

abbrev pub a_or_end : Option ℕ → ℕ → List ℕ → ArrayEffect
a_or_end None x cells = ends 0
a_or_end (Some number) x cells = goes_on 0 number x cells

abbrev pub x_or_end : Option ℕ → ℕ → List ℕ → ArrayEffect
x_or_end None a cells = ends 0
x_or_end (Some number) a cells = goes_on 0 a number cells

abbrev pub array_effect : Insn → ℕ → ℕ → List ℕ → List ℕ → ArrayEffect
array_effect (LoadAbsolute size k) a x cells packet = a_or_end (packet_number packet size k) x cells
array_effect (LoadIndexed size k) a x cells packet = a_or_end (packet_number packet size (x + k)) x cells
array_effect (LoadConstant k) a x cells packet = goes_on 0 k x cells
array_effect (LoadCell k) a x cells packet = goes_on 0 (slice_index cells k) x cells
array_effect LoadLength a x cells packet = goes_on 0 (length packet) x cells
array_effect (LoadXConstant k) a x cells packet = goes_on 0 a k cells
array_effect (LoadXCell k) a x cells packet = goes_on 0 a (slice_index cells k) cells
array_effect LoadXLength a x cells packet = goes_on 0 a (length packet) cells
array_effect (LoadXHeader k) a x cells packet = x_or_end (header_length (packet_number packet Byte k)) a cells
array_effect (Store k) a x cells packet = goes_on 0 a x (slice_set cells k a)
array_effect (StoreX k) a x cells packet = goes_on 0 a x (slice_set cells k x)
array_effect (Alu operation operand) a x cells packet = a_or_end (computed operation a (operand_value operand x)) x cells
array_effect Negate a x cells packet = goes_on 0 ((2 ^ 32 - a) % 2 ^ 32) x cells
array_effect CopyToX a x cells packet = goes_on 0 a a cells
array_effect CopyFromX a x cells packet = goes_on 0 x x cells
array_effect (Jump k) a x cells packet = goes_on k a x cells
array_effect (JumpIf test operand offsets) a x cells packet = goes_on (if holds test a (operand_value operand x) then offsets.jt else offsets.jf) a x cells
array_effect (ReturnConstant k) a x cells packet = ends k
array_effect ReturnA a x cells packet = ends a
