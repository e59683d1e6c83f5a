-- How long the line of a command is.
use Rattle.std.proofs.Common.{◌+◌, ◌*◌, ◌<◌, ◌≤◌, ◌^◌, ◌/◌, ◌%◌, ◌∷◌, ◌++◌, List, [], arith, codes, decimal, get_or, length, length-append, suc, ℕ}
use Rattle.std.specs.List.{flat_map}
use Rattle.std.proofs.lemmas.Fmt.{length-decimal-le}
use Rattle.ipv4_fields.specs.declared.endpoint.Endpoint.{Endpoint}
use Rattle.ipv4_fields.specs.Endpoint.{IsEndpoint, endpoint_text}
use Rattle.bpf_insn.specs.declared.instruction.Insn.{Insn}
use Rattle.bpf_insn.specs.declared.instruction.Insn.TheVariants.{Alu, CopyFromX, CopyToX, Jump, JumpIf, LoadAbsolute, LoadCell, LoadConstant, LoadIndexed, LoadLength, LoadXCell, LoadXConstant, LoadXHeader, LoadXLength, Negate, ReturnA, ReturnConstant, Store, StoreX}
use Rattle.bpf_insn.specs.declared.instruction.Size.{Size}
use Rattle.bpf_insn.specs.declared.instruction.Size.TheVariants.{Byte, Half, Word}
use Rattle.bpf_insn.specs.declared.instruction.Operation.{Operation}
use Rattle.bpf_insn.specs.declared.instruction.Operation.TheVariants.{Add, And, Div, Lsh, Mod, Mul, Or, Rsh, Sub, Xor}
use Rattle.bpf_insn.specs.declared.instruction.Operand.{Operand}
use Rattle.bpf_insn.specs.declared.instruction.Operand.TheVariants.{K, X}
use Rattle.bpf_insn.specs.declared.instruction.Test.{Test}
use Rattle.bpf_insn.specs.declared.instruction.Test.TheVariants.{CommonBit, Equal, Greater, GreaterOrEqual}
use Rattle.bpf_insn.specs.Word.{FieldsFit, IsInstructionWord, OperandFits, instruction_of}
use Rattle.bpf_insn.proofs.WordLemmas.{fields_fit, instruction_of-complete}
use Rattle.bpf_insn.specs.Table.{instruction_with}
use Rattle.bpf_verify.specs.Accepted.{IsAccepted}
use Rattle.bpf_asm.specs.Statement.{load_name, operation_name, test_name}
use Rattle.bpf_asm.specs.Text.{printed_after, printed_first, printed_in_line, printed_insn, printed_operand}
use Rattle.bpf_asm.proofs.ProgramLemmas.{instruction_word_at}
use Rattle.member_group.specs.declared.command.Command.{Command}
use Rattle.member_group.specs.declared.command.Command.TheVariants.{AddGroup, ClearFilter, ClearSelector, Join, Leave, LockFilter, RemoveGroup, SetFilter, SetSelector}
use Rattle.control_line.specs.declared.TheConstants.{LINE_LIMIT}
use Rattle.control_rules.specs.Text.{assembly_text, change_text, keyed, numbered}
use Rattle.control_rules.proofs.TextLemmas.{IsInRange}

-- two texts, one after the other
both : (one other : List ℕ) (m n : ℕ) → length one ≤ m → length other ≤ n → length (one ++ other) ≤ m + n
both one other m n short also = omega (arith, length-append one other)

ten : (n : ℕ) → n < 2 ^ 32 → length (decimal n) ≤ 10
ten n low = length-decimal-le 10 n (omega arith) (omega arith) (omega arith)

three : (n : ℕ) → n < 256 → length (decimal n) ≤ 3
three n low = length-decimal-le 3 n (omega arith) (omega arith) (omega arith)

-- ---- instructions

load_short : (size : Size) → length (load_name size) ≤ 3
load_short Word = omega arith
load_short Half = omega arith
load_short Byte = omega arith

operation_short : (operation : Operation) → length (operation_name operation) ≤ 3
operation_short Add = omega arith
operation_short Sub = omega arith
operation_short Mul = omega arith
operation_short Div = omega arith
operation_short Or = omega arith
operation_short And = omega arith
operation_short Lsh = omega arith
operation_short Rsh = omega arith
operation_short Mod = omega arith
operation_short Xor = omega arith

test_short : (test : Test) → length (test_name test) ≤ 4
test_short Equal = omega arith
test_short Greater = omega arith
test_short GreaterOrEqual = omega arith
test_short CommonBit = omega arith

operand_short : (right : Operand) → OperandFits right → length (printed_operand right) ≤ 11
operand_short (K k) fits = both (codes "#") (decimal k) 1 10 (omega arith) (ten k fits)
operand_short X fits = omega arith

-- a number between two texts
between_short : (front back : List ℕ) (k : ℕ) (m n : ℕ) → k < 2 ^ 32 → length front ≤ m → length back ≤ n → length (front ++ (decimal k ++ back)) ≤ m + (10 + n)
between_short front back k m n fits short also = both front (decimal k ++ back) m (10 + n) short (both (decimal k) back 10 n (ten k fits) also)

between_left : (front back : List ℕ) (k : ℕ) (m n : ℕ) → k < 2 ^ 32 → length front ≤ m → length back ≤ n → length (front ++ decimal k ++ back) ≤ (m + 10) + n
between_left front back k m n fits short also = both (front ++ decimal k) back (m + 10) n (both front (decimal k) m 10 short (ten k fits)) also

number_short : (front : List ℕ) (k m : ℕ) → k < 2 ^ 32 → length front ≤ m → length (front ++ decimal k) ≤ m + 10
number_short front k m fits short = both front (decimal k) m 10 short (ten k fits)

pub insn_short : (insn : Insn) → FieldsFit insn → length (printed_insn insn) ≤ 30
insn_short (LoadAbsolute size k) fits = omega (arith, both (load_name size) (codes " [" ++ decimal k ++ codes "]") 3 13 (load_short size) (between_left (codes " [") (codes "]") k 2 1 fits (omega arith) (omega arith)))
insn_short (LoadIndexed size k) fits = omega (arith, both (load_name size) (codes " [x+" ++ decimal k ++ codes "]") 3 15 (load_short size) (between_left (codes " [x+") (codes "]") k 4 1 fits (omega arith) (omega arith)))
insn_short (LoadConstant k) fits = omega (arith, number_short (codes "ld #") k 4 fits (omega arith))
insn_short (LoadCell k) fits = omega (arith, between_left (codes "ld M[") (codes "]") k 5 1 fits (omega arith) (omega arith))
insn_short LoadLength fits = omega arith
insn_short (LoadXConstant k) fits = omega (arith, number_short (codes "ldx #") k 5 fits (omega arith))
insn_short (LoadXCell k) fits = omega (arith, between_left (codes "ldx M[") (codes "]") k 6 1 fits (omega arith) (omega arith))
insn_short LoadXLength fits = omega arith
insn_short (LoadXHeader k) fits = omega (arith, between_left (codes "ldx 4*([") (codes "]&0xf)") k 8 6 fits (omega arith) (omega arith))
insn_short (Store k) fits = omega (arith, between_left (codes "st M[") (codes "]") k 5 1 fits (omega arith) (omega arith))
insn_short (StoreX k) fits = omega (arith, between_left (codes "stx M[") (codes "]") k 6 1 fits (omega arith) (omega arith))
insn_short (Alu operation right) fits = omega (arith, both (operation_name operation) (codes " " ++ printed_operand right) 3 12 (operation_short operation) (both (codes " ") (printed_operand right) 1 11 (omega arith) (operand_short right fits)))
insn_short Negate fits = omega arith
insn_short CopyToX fits = omega arith
insn_short CopyFromX fits = omega arith
insn_short (Jump k) fits = omega (arith, number_short (codes "ja +") k 4 fits (omega arith))
insn_short (JumpIf test right offsets) fits =
    let jf = three offsets.jf (omega (arith, fits.2)) in
    let jt = three offsets.jt (omega (arith, fits.1)) in
    let last = both (codes ",") (decimal offsets.jf) 1 3 (omega arith) jf in
    let targets = both (decimal offsets.jt) (codes "," ++ decimal offsets.jf) 3 4 jt last in
    let after = both (codes ",") (decimal offsets.jt ++ (codes "," ++ decimal offsets.jf)) 1 7 (omega arith) targets in
    let operands = both (printed_operand right) (codes "," ++ (decimal offsets.jt ++ (codes "," ++ decimal offsets.jf))) 11 8 (operand_short right fits.0) after in
    let rest = both (codes " ") (printed_operand right ++ (codes "," ++ (decimal offsets.jt ++ (codes "," ++ decimal offsets.jf)))) 1 19 (omega arith) operands in
    omega (arith, both (test_name test) (codes " " ++ (printed_operand right ++ (codes "," ++ (decimal offsets.jt ++ (codes "," ++ decimal offsets.jf))))) 4 20 (test_short test) rest)
insn_short (ReturnConstant k) fits = omega (arith, number_short (codes "ret #") k 5 fits (omega arith))
insn_short ReturnA fits = omega arith

-- ---- programs

first_short : (w : ℕ) → IsInstructionWord w → length (printed_first (instruction_of w)) ≤ 30
first_short w it =
    let is = instruction_of-complete w it in
    rw is (insn_short (instruction_with it.uses it.jt it.jf it.k) (fields_fit w (instruction_with it.uses it.jt it.jf it.k) is))

after_short : (w : ℕ) → IsInstructionWord w → length (printed_after (instruction_of w)) ≤ 32
after_short w it =
    let is = instruction_of-complete w it in
    let insn = instruction_with it.uses it.jt it.jf it.k in
    rw is (both (codes "; ") (printed_insn insn) 2 30 (omega arith) (insn_short insn (fields_fit w insn is)))

others_short : (words : List ℕ) → ((i : ℕ) → i < length words → IsInstructionWord (get_or words i 0)) →
    length (flat_map (λ next. printed_after (instruction_of next)) words) ≤ 32 * length words
others_short [] known = omega arith
others_short (w ∷ words) known =
    let first = after_short w (known 0 (omega arith)) in
    let rest = others_short words (λ i inside. known (suc i) (omega arith)) in
    omega (arith, both (printed_after (instruction_of w)) (flat_map (λ next. printed_after (instruction_of next)) words) 32 (32 * length words) first rest)

line_short : (words : List ℕ) → ((i : ℕ) → i < length words → IsInstructionWord (get_or words i 0)) → length (printed_in_line words) ≤ 32 * length words
line_short [] known = omega arith
line_short (w ∷ words) known =
    let first = first_short w (known 0 (omega arith)) in
    let rest = others_short words (λ i inside. known (suc i) (omega arith)) in
    omega (arith, both (printed_first (instruction_of w)) (flat_map (λ next. printed_after (instruction_of next)) words) 30 (32 * length words) first rest)

pub program_short : (words : List ℕ) → IsAccepted words → length (printed_in_line words) ≤ 32 * length words
program_short words accepted = line_short words (λ i inside. instruction_word_at words i accepted inside)

-- ---- lines

endpoint_short : (e : Endpoint) → IsEndpoint e → length (endpoint_text e) ≤ 21
endpoint_short e is =
    let address = is.address in
    let port = is.port in
    let a = three (e.address / 2 ^ 24) (omega arith) in
    let b = three (e.address / 2 ^ 16 % 256) (omega arith) in
    let c = three (e.address / 2 ^ 8 % 256) (omega arith) in
    let d = three (e.address % 256) (omega arith) in
    let p : length (decimal e.port) ≤ 5 = length-decimal-le 5 e.port (omega arith) (omega arith) (omega arith) in
    let five = codes ":" ++ decimal e.port in
    let fourth = decimal (e.address % 256) ++ five in
    let four = codes "." ++ fourth in
    let third = decimal (e.address / 2 ^ 8 % 256) ++ four in
    let two = codes "." ++ third in
    let second = decimal (e.address / 2 ^ 16 % 256) ++ two in
    let one = codes "." ++ second in
    let five_short = both (codes ":") (decimal e.port) 1 5 (omega arith) p in
    let fourth_short = both (decimal (e.address % 256)) five 3 6 d five_short in
    let four_short = both (codes ".") fourth 1 9 (omega arith) fourth_short in
    let third_short = both (decimal (e.address / 2 ^ 8 % 256)) four 3 10 c four_short in
    let two_short = both (codes ".") third 1 13 (omega arith) third_short in
    let second_short = both (decimal (e.address / 2 ^ 16 % 256)) two 3 14 b two_short in
    let one_short = both (codes ".") second 1 17 (omega arith) second_short in
    both (decimal (e.address / 2 ^ 24)) one 3 18 a one_short

keyed_short : (word : List ℕ) (key : Endpoint) → length word ≤ 8 → IsEndpoint key → length (keyed word key) ≤ 30
keyed_short word key short is =
    omega (arith, both word (codes " " ++ endpoint_text key) 8 22 short (both (codes " ") (endpoint_text key) 1 21 (omega arith) (endpoint_short key is)))

numbered_short : (word : List ℕ) (key : Endpoint) (id : ℕ) → length word ≤ 8 → IsEndpoint key → id < 2 ^ 32 → length (numbered word key id) ≤ 41
numbered_short word key id short is low =
    omega (arith, both (keyed word key) (codes " " ++ decimal id) 30 11 (keyed_short word key short is) (both (codes " ") (decimal id) 1 10 (omega arith) (ten id low)))

assembly_short : (words : List ℕ) → IsAccepted words → length (assembly_text words) ≤ 5 + 32 * length words
assembly_short words accepted = both (codes " asm ") (printed_in_line words) 5 (32 * length words) (omega arith) (program_short words accepted)

pub change_short : (command : Command (List ℕ)) → IsInRange command → length (change_text command) ≤ LINE_LIMIT
change_short (AddGroup key) fits = omega (arith, keyed_short (codes "add") key (omega arith) fits)
change_short (RemoveGroup key) fits = omega (arith, keyed_short (codes "remove") key (omega arith) fits)
change_short (Join key id to) fits =
    omega (arith, both (numbered (codes "join") key id) (codes " " ++ endpoint_text to) 41 22 (numbered_short (codes "join") key id (omega arith) fits.0 fits.1) (both (codes " ") (endpoint_text to) 1 21 (omega arith) (endpoint_short to fits.2)))
change_short (Leave key id) fits = omega (arith, numbered_short (codes "leave") key id (omega arith) fits.0 fits.1)
change_short (SetSelector key words) fits =
    let few = fits.1.not_too_long in
    omega (arith, both (keyed (codes "selector") key) (assembly_text words) 30 (5 + 32 * length words) (keyed_short (codes "selector") key (omega arith) fits.0) (assembly_short words fits.1))
change_short (ClearSelector key) fits =
    omega (arith, both (keyed (codes "selector") key) (codes " none") 30 5 (keyed_short (codes "selector") key (omega arith) fits) (omega arith))
change_short (SetFilter key id words) fits =
    let few = fits.2.not_too_long in
    omega (arith, both (numbered (codes "filter") key id) (assembly_text words) 41 (5 + 32 * length words) (numbered_short (codes "filter") key id (omega arith) fits.0 fits.1) (assembly_short words fits.2))
change_short (ClearFilter key id) fits =
    omega (arith, both (numbered (codes "filter") key id) (codes " none") 41 5 (numbered_short (codes "filter") key id (omega arith) fits.0 fits.1) (omega arith))
change_short (LockFilter key id) fits = omega (arith, numbered_short (codes "lock") key id (omega arith) fits.0 fits.1)
