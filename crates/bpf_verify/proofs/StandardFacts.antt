-- Worked instructions and paths, so that a slip in a definition does not check.
use Rattle.std.specs.Prelude.{◌≡◌, ◌∷◌, List, None, Some, [], refl, ℕ}
use Rattle.std.proofs.Common.{arith}
use Rattle.bpf_insn.specs.declared.instruction.Insn.TheVariants.{Alu, Jump, JumpIf, LoadAbsolute, LoadCell, LoadIndexed, LoadXCell, LoadXHeader, ReturnA, Store, StoreX}
use Rattle.bpf_insn.specs.declared.instruction.Size.TheVariants.{Byte, Half, Word}
use Rattle.bpf_insn.specs.declared.instruction.Operation.TheVariants.{Div, Lsh, Mod, Mul, Rsh}
use Rattle.bpf_insn.specs.declared.instruction.Operand.TheVariants.{K, X}
use Rattle.bpf_insn.specs.declared.instruction.Test.TheVariants.{Equal}
use Rattle.bpf_insn.specs.Table.{table, uses_of}
use Rattle.bpf_insn.specs.Word.{instruction_of}
use Rattle.bpf_verify.specs.declared.fault.Fault.TheVariants.{Ancillary, BadCell, BadOpcode, BadShift, JumpOutside, StrayField, ZeroDivisor}
use Rattle.bpf_verify.specs.Path.{IsPath, Loads, Stores, successors}
use Rattle.bpf_verify.specs.Accepted.{instruction_fault, word_fault}

-- ---- jumps

-- a jump of 0 goes to the next place, and 255 and 255 from place 3839 on reach the last of 4096
next_place : successors (JumpIf Equal (K 0) (record { jt = 0; jf = 255 })) 3839 ≡ 3840 ∷ 4095 ∷ []
next_place = refl

jump_to_the_last_place : instruction_fault 4096 3839 (JumpIf Equal (K 0) (record { jt = 0; jf = 255 })) ≡ None
jump_to_the_last_place = refl

jump_behind_the_last_place : instruction_fault 4096 3840 (JumpIf Equal (K 0) (record { jt = 0; jf = 255 })) ≡ Some (JumpOutside 3840)
jump_behind_the_last_place = refl

both_targets_count : instruction_fault 3 1 (JumpIf Equal X (record { jt = 1; jf = 0 })) ≡ Some (JumpOutside 1)
both_targets_count = refl

far_jump_to_the_next_place : instruction_fault 2 0 (Jump 0) ≡ None
far_jump_to_the_next_place = refl

-- a target does not wrap
far_jump_is_a_sum : successors (Jump 0xffff_ffff) 1 ≡ 0x1_0000_0001 ∷ []
far_jump_is_a_sum = refl

far_jump_outside : instruction_fault 2 0 (Jump 0xffff_ffff) ≡ Some (JumpOutside 0)
far_jump_outside = refl

nothing_after_a_return : successors ReturnA 7 ≡ []
nothing_after_a_return = refl

-- ---- operands

largest_absolute_load : instruction_fault 2 0 (LoadAbsolute Byte 0x7fff_ffff) ≡ None
largest_absolute_load = refl

ancillary_load : instruction_fault 2 0 (LoadAbsolute Word 0x8000_0000) ≡ Some (Ancillary 0)
ancillary_load = refl

-- only absolute loads have ancillary data
indexed_load : instruction_fault 2 0 (LoadIndexed Half 0x8000_0000) ≡ None
indexed_load = refl

header_load : instruction_fault 2 0 (LoadXHeader 0x8000_0000) ≡ None
header_load = refl

last_cell : instruction_fault 2 0 (LoadCell 15) ≡ None
last_cell = refl

no_cell_sixteen : instruction_fault 2 0 (StoreX 16) ≡ Some (BadCell 0)
no_cell_sixteen = refl

division_by_zero : instruction_fault 2 0 (Alu Div (K 0)) ≡ Some (ZeroDivisor 0)
division_by_zero = refl

remainder_by_zero : instruction_fault 2 0 (Alu Mod (K 0)) ≡ Some (ZeroDivisor 0)
remainder_by_zero = refl

division_by_x : instruction_fault 2 0 (Alu Div X) ≡ None
division_by_x = refl

product_with_zero : instruction_fault 2 0 (Alu Mul (K 0)) ≡ None
product_with_zero = refl

longest_shift : instruction_fault 2 0 (Alu Lsh (K 31)) ≡ None
longest_shift = refl

shift_by_all_bits : instruction_fault 2 0 (Alu Rsh (K 32)) ≡ Some (BadShift 0)
shift_by_all_bits = refl

-- ---- words

-- a code of no instruction comes before its stray fields
opcode_before_fields : word_fault 2 1 (instruction_of 0x0008_0001_0000_0000) ≡ Some (BadOpcode 1)
unfolding instruction_of uses_of table
opcode_before_fields = refl

-- and a stray field before the operand's fault
fields_before_operand : word_fault 2 0 (instruction_of 0x0030_0001_8000_0000) ≡ Some (StrayField 0)
unfolding instruction_of uses_of table
fields_before_operand = refl

-- ---- paths

stores_from_x : Stores (StoreX 3) 3
stores_from_x = refl

loads_to_x : Loads (LoadXCell 3) 3
loads_to_x = refl

-- jeq #0,0,1; st M[0]; ld M[0]; ret a
store_in_a_branch : List ℕ
store_in_a_branch = 0x0015_0001_0000_0000 ∷ 0x0002_0000_0000_0000 ∷ 0x0060_0000_0000_0000 ∷ 0x0016_0000_0000_0000 ∷ []

path_around_the_store : IsPath store_in_a_branch (0 ∷ 2 ∷ [])
unfolding instruction_of uses_of table store_in_a_branch
path_around_the_store =
    (refl, ((JumpIf Equal (K 0) (record { jt = 0; jf = 1 }), (0x0015_0001_0000_0000, refl, refl), (1, omega arith, refl)), tt))

path_through_the_store : IsPath store_in_a_branch (0 ∷ 1 ∷ 2 ∷ [])
unfolding instruction_of uses_of table store_in_a_branch
path_through_the_store = (
  refl,
  ((JumpIf Equal (K 0) (record { jt = 0; jf = 1 }), (0x0015_0001_0000_0000, refl, refl), (0, omega arith, refl)), ((Store 0, (0x0002_0000_0000_0000, refl, refl), (0, omega arith, refl)), tt)),
)
