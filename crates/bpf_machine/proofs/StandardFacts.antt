-- Worked examples of the machine, by numbers written down by hand, so that a slip made alike in the definition and in the code
-- shows. A program is told by its instructions; it ends with the value, after so many instructions.
use Rattle.std.proofs.Common.{◌≡◌, ◌∷◌, ℕ, List, [], map, refl}
use Rattle.bpf_insn.specs.declared.instruction.Insn.{Insn}
use Rattle.bpf_insn.specs.declared.instruction.Insn.TheVariants.{Alu, CopyFromX, CopyToX, Jump, JumpIf, LoadAbsolute, LoadCell, LoadConstant, LoadIndexed, LoadLength, LoadXCell, LoadXConstant, LoadXHeader, LoadXLength, Negate, ReturnA, ReturnConstant, Store, StoreX}
use Rattle.bpf_insn.specs.declared.instruction.Operand.TheVariants.{K, X}
use Rattle.bpf_insn.specs.declared.instruction.Operation.{Operation}
use Rattle.bpf_insn.specs.declared.instruction.Operation.TheVariants.{Add, And, Div, Lsh, Mod, Mul, Or, Rsh, Sub, Xor}
use Rattle.bpf_insn.specs.declared.instruction.Size.TheVariants.{Byte, Half, Word}
use Rattle.bpf_insn.specs.declared.instruction.Test.TheVariants.{CommonBit, Equal, Greater, GreaterOrEqual}
use Rattle.bpf_insn.specs.Table.{table, uses_of}
use Rattle.bpf_insn.specs.Word.{instruction_of, word_of}
use Rattle.bpf_machine.specs.Meaning.{Ret, cost_of, ending_of, run_after}

abbrev Ends : List Insn → List ℕ → ℕ → ℕ → Type 0
Ends insns packet value steps = (ending_of (map word_of insns) packet ≡ Ret value) × (cost_of (map word_of insns) packet ≡ steps)

-- 69 is 0x45, the first byte of an IPv4 header of 20 bytes
abbrev bytes : List ℕ
bytes = 69 ∷ 2 ∷ 3 ∷ 4 ∷ 5 ∷ []

-- ---- loads: big-endian, and past the packet's end the program ends with 0

load_word : Ends (LoadAbsolute Word 0 ∷ ReturnA ∷ []) bytes 1157759748 2
unfolding run_after instruction_of uses_of table
load_word = (refl, refl)

load_half : Ends (LoadAbsolute Half 3 ∷ ReturnA ∷ []) bytes 1029 2
unfolding run_after instruction_of uses_of table
load_half = (refl, refl)

load_byte : Ends (LoadAbsolute Byte 4 ∷ ReturnA ∷ []) bytes 5 2
unfolding run_after instruction_of uses_of table
load_byte = (refl, refl)

word_past_the_end : Ends (LoadAbsolute Word 2 ∷ ReturnConstant 7 ∷ []) bytes 0 1
unfolding run_after instruction_of uses_of table
word_past_the_end = (refl, refl)

byte_past_the_end : Ends (LoadAbsolute Byte 5 ∷ ReturnConstant 7 ∷ []) bytes 0 1
unfolding run_after instruction_of uses_of table
byte_past_the_end = (refl, refl)

load_indexed : Ends (LoadXConstant 2 ∷ LoadIndexed Half 1 ∷ ReturnA ∷ []) bytes 1029 3
unfolding run_after instruction_of uses_of table
load_indexed = (refl, refl)

-- the place 2^32 is behind every packet: X + k does not wrap to 0
index_does_not_wrap : Ends (LoadXConstant 4294967295 ∷ LoadIndexed Byte 1 ∷ ReturnConstant 7 ∷ []) bytes 0 2
unfolding run_after instruction_of uses_of table
index_does_not_wrap = (refl, refl)

load_length : Ends (LoadLength ∷ ReturnA ∷ []) bytes 5 2
unfolding run_after instruction_of uses_of table
load_length = (refl, refl)

-- four times the low four bits of a byte
load_header_length : Ends (LoadXHeader 0 ∷ CopyFromX ∷ ReturnA ∷ []) bytes 20 3
unfolding run_after instruction_of uses_of table
load_header_length = (refl, refl)

header_length_past_the_end : Ends (LoadXHeader 5 ∷ ReturnConstant 7 ∷ []) bytes 0 1
unfolding run_after instruction_of uses_of table
header_length_past_the_end = (refl, refl)

x_length : Ends (LoadXLength ∷ CopyFromX ∷ ReturnA ∷ []) bytes 5 3
unfolding run_after instruction_of uses_of table
x_length = (refl, refl)

-- ---- registers and cells

registers_begin_as_zero : Ends (Alu Add X ∷ ReturnA ∷ []) bytes 0 2
unfolding run_after instruction_of uses_of table
registers_begin_as_zero = (refl, refl)

cells : Ends (LoadConstant 9 ∷ Store 15 ∷ LoadXConstant 8 ∷ StoreX 0 ∷ LoadCell 15 ∷ LoadXCell 0 ∷ Alu Sub X ∷ ReturnA ∷ []) bytes 1 8
unfolding run_after instruction_of uses_of table
cells = (refl, refl)

copies : Ends (LoadConstant 6 ∷ CopyToX ∷ LoadConstant 1 ∷ CopyFromX ∷ ReturnA ∷ []) bytes 6 5
unfolding run_after instruction_of uses_of table
copies = (refl, refl)

-- ---- operations, modulo 2^32, with a constant and with X

abbrev Computes : Operation → ℕ → ℕ → ℕ → Type 0
Computes operation a operand value =
    Ends (LoadConstant a ∷ Alu operation (K operand) ∷ ReturnA ∷ []) [] value 3
    × Ends (LoadConstant a ∷ LoadXConstant operand ∷ Alu operation X ∷ ReturnA ∷ []) [] value 4

add : Computes Add 4294967295 2 1
unfolding run_after instruction_of uses_of table
add = ((refl, refl), (refl, refl))

sub : Computes Sub 1 2 4294967295
unfolding run_after instruction_of uses_of table
sub = ((refl, refl), (refl, refl))

mul : Computes Mul 65537 65536 65536
unfolding run_after instruction_of uses_of table
mul = ((refl, refl), (refl, refl))

div : Computes Div 4294967295 2 2147483647
unfolding run_after instruction_of uses_of table
div = ((refl, refl), (refl, refl))

modulo : Computes Mod 4294967295 10 5
unfolding run_after instruction_of uses_of table
modulo = ((refl, refl), (refl, refl))

or : Computes Or 12 10 14
unfolding run_after instruction_of uses_of table
or = ((refl, refl), (refl, refl))

and : Computes And 12 10 8
unfolding run_after instruction_of uses_of table
and = ((refl, refl), (refl, refl))

xor : Computes Xor 12 10 6
unfolding run_after instruction_of uses_of table
xor = ((refl, refl), (refl, refl))

left_shift : Computes Lsh 3 31 2147483648
unfolding run_after instruction_of uses_of table
left_shift = ((refl, refl), (refl, refl))

right_shift : Computes Rsh 2147483648 31 1
unfolding run_after instruction_of uses_of table
right_shift = ((refl, refl), (refl, refl))

negate : Ends (LoadConstant 1 ∷ Negate ∷ ReturnA ∷ []) [] 4294967295 3
unfolding run_after instruction_of uses_of table
negate = (refl, refl)

negate_zero : Ends (Negate ∷ ReturnA ∷ []) [] 0 2
unfolding run_after instruction_of uses_of table
negate_zero = (refl, refl)

-- a shift by 32 or more, by X, gives 0, and the program goes on
left_shift_by_32 : Ends (LoadConstant 1 ∷ LoadXConstant 32 ∷ Alu Lsh X ∷ Alu Add (K 5) ∷ ReturnA ∷ []) [] 5 5
unfolding run_after instruction_of uses_of table
left_shift_by_32 = (refl, refl)

right_shift_by_4294967295 : Ends (LoadConstant 4294967295 ∷ LoadXConstant 4294967295 ∷ Alu Rsh X ∷ Alu Add (K 5) ∷ ReturnA ∷ []) [] 5 5
unfolding run_after instruction_of uses_of table
right_shift_by_4294967295 = (refl, refl)

-- a division by an X of 0 ends the program with 0
division_by_zero : Ends (LoadConstant 9 ∷ Alu Div X ∷ ReturnConstant 7 ∷ []) [] 0 2
unfolding run_after instruction_of uses_of table
division_by_zero = (refl, refl)

remainder_by_zero : Ends (LoadConstant 9 ∷ Alu Mod X ∷ ReturnConstant 7 ∷ []) [] 0 2
unfolding run_after instruction_of uses_of table
remainder_by_zero = (refl, refl)

-- ---- jumps: over so many instructions, from behind the jump

jump : Ends (Jump 1 ∷ ReturnConstant 1 ∷ ReturnConstant 2 ∷ []) [] 2 2
unfolding run_after instruction_of uses_of table
jump = (refl, refl)

equal : Ends (LoadConstant 5 ∷ JumpIf Equal (K 5) (record { jt = 1; jf = 0 }) ∷ ReturnConstant 1 ∷ ReturnConstant 2 ∷ []) [] 2 3
unfolding run_after instruction_of uses_of table
equal = (refl, refl)

not_greater : Ends (LoadConstant 5 ∷ JumpIf Greater (K 5) (record { jt = 1; jf = 0 }) ∷ ReturnConstant 1 ∷ ReturnConstant 2 ∷ []) [] 1 3
unfolding run_after instruction_of uses_of table
not_greater = (refl, refl)

greater_or_equal : Ends (LoadConstant 5 ∷ LoadXConstant 5 ∷ JumpIf GreaterOrEqual X (record { jt = 0; jf = 1 }) ∷ ReturnConstant 1 ∷ ReturnConstant 2 ∷ []) [] 1 4
unfolding run_after instruction_of uses_of table
greater_or_equal = (refl, refl)

common_bit : Ends (LoadConstant 6 ∷ JumpIf CommonBit (K 8) (record { jt = 0; jf = 1 }) ∷ ReturnConstant 1 ∷ ReturnConstant 2 ∷ []) [] 2 3
unfolding run_after instruction_of uses_of table
common_bit = (refl, refl)
