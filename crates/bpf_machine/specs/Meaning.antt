-- The meaning of a program: the machine of McCanne and Jacobson 1993, section 3, over the words that remain
-- (networking/filter.rst, "BPF engine and instruction set"; docs/MACHINE.md, "The machine").
use Rattle.std.specs.Prelude.{◌≡◌, ◌≢◌, ◌==◌, ◌+◌, ◌-◌, ◌*◌, ◌/◌, ◌%◌, ◌^◌, ◌≤◌, ◌∷◌, if◌then◌else◌, Bool, Err, List, None, Ok, Option, Result, Some, [], bit_and, bit_or, bit_xor, drop, length, nat_le, nat_lt, not, suc, zero, ℕ}
use Rattle.bpf_insn.specs.declared.instruction.Insn.{Insn}
use Rattle.bpf_insn.specs.declared.instruction.Insn.TheVariants.{Alu, CopyFromX, CopyToX, Jump, JumpIf, LoadAbsolute, LoadCell, LoadConstant, LoadIndexed, LoadLength, LoadXCell, LoadXConstant, LoadXHeader, LoadXLength, Negate, ReturnA, ReturnConstant, Store, StoreX}
use Rattle.bpf_insn.specs.declared.instruction.Operand.{Operand}
use Rattle.bpf_insn.specs.declared.instruction.Operand.TheVariants.{K, X}
use Rattle.bpf_insn.specs.declared.instruction.Operation.{Operation}
use Rattle.bpf_insn.specs.declared.instruction.Operation.TheVariants.{Add, And, Div, Lsh, Mod, Mul, Or, Rsh, Sub, Xor}
use Rattle.bpf_insn.specs.declared.instruction.Size.TheVariants.{Byte}
use Rattle.bpf_insn.specs.declared.instruction.Test.{Test}
use Rattle.bpf_insn.specs.declared.instruction.Test.TheVariants.{CommonBit, Equal, Greater, GreaterOrEqual}
use Rattle.bpf_insn.specs.declared.instruction.WordFault.{WordFault}
use Rattle.bpf_insn.specs.Word.{instruction_of}
use Rattle.bpf_machine.specs.Packet.{packet_number}

-- scratch memory M[]: a cell has a value once it was stored
abbrev pub Cells : Type 0
Cells = ℕ → Option ℕ

-- no cell was stored
abbrev pub no_cells : Cells
no_cells cell = None

-- the cells once cell k was stored
abbrev pub with_cell : Cells → ℕ → ℕ → Cells
with_cell cells k number cell = if cell == k then Some number else cells cell

-- how a run ends: it returns a value, or is stuck
pub data Ending : Type 0 where
  Ret : ℕ → Ending
  Stuck : Ending

-- the effect of one instruction: the program ends, or goes on past some dropped words with these registers and cells
pub data Effect : Type 0 where
  goes_on : (dropped a x : ℕ) (cells : Cells) → Effect
  ends : Ending → Effect

-- the value of an operand
abbrev pub operand_value : Operand → ℕ → ℕ
operand_value (K k) x = k
operand_value X x = x

-- whether a test of A and its operand is true
abbrev pub holds : Test → ℕ → ℕ → Bool
holds Equal a operand = a == operand
holds Greater a operand = nat_lt operand a
holds GreaterOrEqual a operand = nat_le operand a
holds CommonBit a operand = not (bit_and a operand == 0)

-- the result of an operation on two 32-bit numbers, none if it divides by zero
abbrev pub computed : Operation → ℕ → ℕ → Option ℕ
computed Add a operand = Some ((a + operand) % 2 ^ 32)
computed Sub a operand = Some ((a + 2 ^ 32 - operand) % 2 ^ 32)
computed Mul a operand = Some (a * operand % 2 ^ 32)
computed Div a operand = if operand == 0 then None else Some (a / operand)
computed Or a operand = Some (bit_or a operand)
computed And a operand = Some (bit_and a operand)
computed Lsh a operand = Some (if nat_lt operand 32 then a * 2 ^ operand % 2 ^ 32 else 0)
computed Rsh a operand = Some (if nat_lt operand 32 then a / 2 ^ operand else 0)
computed Mod a operand = if operand == 0 then None else Some (a % operand)
computed Xor a operand = Some (bit_xor a operand)

-- four times the low four bits of a byte
abbrev pub header_length : Option ℕ → Option ℕ
header_length None = None
header_length (Some byte) = Some (4 * (byte % 16))

-- A, or X, becomes a number; without it the program ends with 0
abbrev pub a_or_end : Option ℕ → ℕ → Cells → Effect
a_or_end None x cells = ends (Ret 0)
a_or_end (Some number) x cells = goes_on 0 number x cells

abbrev pub x_or_end : Option ℕ → ℕ → Cells → Effect
x_or_end None a cells = ends (Ret 0)
x_or_end (Some number) a cells = goes_on 0 a number cells

-- A, or X, becomes the number of a cell; a cell that was not stored is stuck
abbrev pub a_or_stuck : Option ℕ → ℕ → Cells → Effect
a_or_stuck None x cells = ends Stuck
a_or_stuck (Some number) x cells = goes_on 0 number x cells

abbrev pub x_or_stuck : Option ℕ → ℕ → Cells → Effect
x_or_stuck None a cells = ends Stuck
x_or_stuck (Some number) a cells = goes_on 0 a number cells

-- the effect of an instruction on these registers, cells and packet
abbrev pub effect : Insn → ℕ → ℕ → Cells → List ℕ → Effect
effect (LoadAbsolute size k) a x cells packet = a_or_end (packet_number packet size k) x cells
effect (LoadIndexed size k) a x cells packet = a_or_end (packet_number packet size (x + k)) x cells
effect (LoadConstant k) a x cells packet = goes_on 0 k x cells
effect (LoadCell k) a x cells packet = a_or_stuck (cells k) x cells
effect LoadLength a x cells packet = goes_on 0 (length packet) x cells
effect (LoadXConstant k) a x cells packet = goes_on 0 a k cells
effect (LoadXCell k) a x cells packet = x_or_stuck (cells k) a cells
effect LoadXLength a x cells packet = goes_on 0 a (length packet) cells
effect (LoadXHeader k) a x cells packet = x_or_end (header_length (packet_number packet Byte k)) a cells
effect (Store k) a x cells packet = goes_on 0 a x (with_cell cells k a)
effect (StoreX k) a x cells packet = goes_on 0 a x (with_cell cells k x)
effect (Alu operation operand) a x cells packet = a_or_end (computed operation a (operand_value operand x)) x cells
effect Negate a x cells packet = goes_on 0 ((2 ^ 32 - a) % 2 ^ 32) x cells
effect CopyToX a x cells packet = goes_on 0 a a cells
effect CopyFromX a x cells packet = goes_on 0 x x cells
effect (Jump k) a x cells packet = goes_on k a x cells
effect (JumpIf test operand offsets) a x cells packet = goes_on (if holds test a (operand_value operand x) then offsets.jt else offsets.jf) a x cells
effect (ReturnConstant k) a x cells packet = ends (Ret k)
effect ReturnA a x cells packet = ends (Ret a)

-- the effect of a word: one of no instruction is stuck
abbrev pub word_effect : Result Insn WordFault → ℕ → ℕ → Cells → List ℕ → Effect
word_effect (Err fault) a x cells packet = ends Stuck
word_effect (Ok insn) a x cells packet = effect insn a x cells packet

-- a run: its ending, and the number of words that it met
abbrev pub Run : Type 0
Run = Ending × ℕ

abbrev pub one_more : Run → Run
one_more run = (run.0, run.1 + 1)

abbrev pub run_on : (ℕ → ℕ → ℕ → Cells → Run) → Effect → Run
run_on rest (ends ending) = (ending, 1)
run_on rest (goes_on dropped a x cells) = one_more (rest dropped a x cells)

-- the run over the words that remain once some of them are dropped; if none remains, it is stuck
-- The reason: docs/INTERNALS.md, "The meaning carries the number of dropped words".
unfoldable pub run_after : ℕ → List ℕ → ℕ → ℕ → Cells → List ℕ → Run
run_after dropped [] a x cells packet = (Stuck, 0)
run_after (suc dropped) (word ∷ words) a x cells packet = run_after dropped words a x cells packet
run_after zero (word ∷ words) a x cells packet =
    run_on (λ dropped' a' x' cells'. run_after dropped' words a' x' cells' packet) (word_effect (instruction_of word) a x cells packet)

-- the meaning of a list of words with these registers and cells, and how many words it meets
abbrev pub mean : List ℕ → ℕ → ℕ → Cells → List ℕ → Ending
mean words a x cells packet = (run_after 0 words a x cells packet).0

abbrev pub cost : List ℕ → ℕ → ℕ → Cells → List ℕ → ℕ
cost words a x cells packet = (run_after 0 words a x cells packet).1

-- how a program ends on a packet, and how many words it meets: A and X begin as 0 (this project's rule), and no cell has
-- a value
abbrev pub ending_of : List ℕ → List ℕ → Ending
ending_of program packet = mean program 0 0 no_cells packet

abbrev pub cost_of : List ℕ → List ℕ → ℕ
cost_of program packet = cost program 0 0 no_cells packet

-- the meaning by cases on the first of the words that remain; going on drops words
pub record MeansByFirstWord (packet : List ℕ) : Type 0 where
  pub none_remains : (a x : ℕ) (cells : Cells) → (mean [] a x cells packet ≡ Stuck) × (cost [] a x cells packet ≡ 0)
  pub first_ends :
      (word : ℕ) (words : List ℕ) (a x : ℕ) (cells : Cells) (ending : Ending)
      → word_effect (instruction_of word) a x cells packet ≡ ends ending
      → (mean (word ∷ words) a x cells packet ≡ ending) × (cost (word ∷ words) a x cells packet ≡ 1)
  pub first_goes_on :
      (word : ℕ) (words : List ℕ) (a x : ℕ) (cells : Cells) (dropped a' x' : ℕ) (cells' : Cells)
      → word_effect (instruction_of word) a x cells packet ≡ goes_on dropped a' x' cells'
      → (mean (word ∷ words) a x cells packet ≡ mean (drop dropped words) a' x' cells' packet)
      × (cost (word ∷ words) a x cells packet ≡ cost (drop dropped words) a' x' cells' packet + 1)

-- an accepted program is never stuck, and meets at most as many words as it has
pub record IsSound (program packet : List ℕ) : Type 0 where
  pub never_stuck : ending_of program packet ≢ Stuck
  pub within_length : cost_of program packet ≤ length program
