-- The steps of the assembler: lists of tokens, and the parts of a form from their front. Its laws are that it reads exactly the
-- grammar (`Spells_line`).
use Rattle.std.specs.Prelude.{◌==◌, ◌+◌, ◌*◌, ◌^◌, ◌∷◌, ◌&&◌, Bool, List, None, Option, Some, [], codes, drop, false, if◌then◌else◌, length, map, nat_lt, option_and_then, slice_index, suc, true, unwrap_or, zero, ℕ}
use Rattle.std.specs.Char.{digit_value, is_ascii_alphanumeric, is_ascii_digit}
use Rattle.std.specs.List.{prefix_len, take_while}
use Rattle.std.specs.Option.{option_map}
use Rattle.std.specs.Str.{bytes_eq}
use Rattle.bpf_insn.specs.declared.instruction.Insn.{Insn}
use Rattle.bpf_insn.specs.declared.instruction.Insn.TheVariants.{Alu, CopyFromX, CopyToX, LoadAbsolute, LoadCell, LoadConstant, LoadIndexed, LoadLength, LoadXCell, LoadXConstant, LoadXHeader, LoadXLength, Negate, ReturnA, ReturnConstant, Store, StoreX}
use Rattle.bpf_insn.specs.declared.instruction.Size.{Size}
use Rattle.bpf_insn.specs.declared.instruction.Size.TheVariants.{Byte, Half, Word}
use Rattle.bpf_insn.specs.declared.instruction.Operation.{Operation}
use Rattle.bpf_insn.specs.declared.instruction.Operation.TheVariants.{Add, And, Div, Lsh, Mod, Mul, Or, Rsh, Sub, Xor}
use Rattle.bpf_insn.specs.declared.instruction.Operand.{Operand}
use Rattle.bpf_insn.specs.declared.instruction.Operand.TheVariants.{K, X}
use Rattle.bpf_insn.specs.declared.instruction.Test.{Test}
use Rattle.bpf_insn.specs.declared.instruction.Test.TheVariants.{CommonBit, Equal, Greater, GreaterOrEqual}
use Rattle.bpf_asm.specs.declared.fault.AsmFault.{AsmFault}
use Rattle.bpf_asm.specs.declared.fault.AsmFault.TheVariants.{Syntax}
use Rattle.bpf_asm.specs.Line.{lines_of}
use Rattle.bpf_asm.specs.Statement.{Line, Statement, Target, branch, goes_to, jump, plain, skips}
use Rattle.bpf_asm.specs.Target.{first_of}
use Rattle.bpf_asm.specs.Token.{Token, begins_word, is_gap, is_in_word, is_mark, mark, number, stray, word}

infixl 10 ◌>>=◌
abbrev pub ◌>>=◌ : {A B : Type 0} → Option A → (A → Option B) → Option B
o >>= f = option_and_then f o

-- ---- numbers

-- the number that the digits spell after those of n, if it is below 2^32
abbrev pub next_value : ℕ → ℕ → ℕ → Option ℕ
next_value radix n c =
    if nat_lt (digit_value c) radix
    then (if nat_lt (n * radix + digit_value c) (2 ^ 32) then Some (n * radix + digit_value c) else None)
    else None

abbrev pub numeral_after : ℕ → List ℕ → Option ℕ → Option ℕ
numeral_after radix [] found = found
numeral_after radix (c ∷ cs) None = None
numeral_after radix (c ∷ cs) (Some n) = numeral_after radix cs (next_value radix n c)

unfoldable pub numeral : ℕ → List ℕ → Option ℕ
numeral radix digits = if nat_lt 0 (length digits) then numeral_after radix digits (Some 0) else None

unfoldable pub number_of : List ℕ → Option ℕ
number_of run =
    if nat_lt 1 (length run) && (slice_index run 0 == 48)
    then (if slice_index run 1 == 120 then numeral 16 (drop 2 run) else None)
    else numeral 10 run

-- ---- tokens

abbrev pub number_token : Option ℕ → Token
number_token None = stray
number_token (Some n) = number n

-- the token that a byte begins, and how many of the bytes after it belong to it
abbrev pub token_at : ℕ → List ℕ → Token
token_at b text =
    if begins_word b
    then word (b ∷ take_while is_in_word text)
    else if is_ascii_digit b
    then number_token (number_of (b ∷ take_while is_ascii_alphanumeric text))
    else if is_mark b
    then mark b
    else stray

abbrev pub more_of : ℕ → List ℕ → ℕ
more_of b text =
    if begins_word b
    then prefix_len is_in_word text
    else if is_ascii_digit b
    then prefix_len is_ascii_alphanumeric text
    else 0

-- the tokens of a text, of which the first bytes are skipped
unfoldable pub tokens_after : ℕ → List ℕ → List Token
tokens_after skipped [] = []
tokens_after (suc skipped) (b ∷ text) = tokens_after skipped text
tokens_after zero (b ∷ text) = if is_gap b then tokens_after 0 text else token_at b text ∷ tokens_after (more_of b text) text

abbrev pub tokens_of : List ℕ → List Token
tokens_of text = tokens_after 0 text

-- ---- what follows a token of a kind

unfoldable pub after_mark : ℕ → List Token → Option (List Token)
after_mark b (mark c ∷ tokens) = if c == b then Some tokens else None
after_mark b _ = None

unfoldable pub after_word : List ℕ → List Token → Option (List Token)
after_word name (word other ∷ tokens) = if bytes_eq other name then Some tokens else None
after_word name _ = None

unfoldable pub after_number : List Token → Option (ℕ × List Token)
after_number (number n ∷ tokens) = Some (n, tokens)
after_number _ = None

-- ---- operands

-- an operand as it is written
pub data Form : Type 0 where
  nothing : Form
  absolute_form : ℕ → Form
  indexed_form : ℕ → Form
  constant_form : ℕ → Form
  cell_form : ℕ → Form
  header_form : ℕ → Form
  skip_form : ℕ → Form
  name_form : List ℕ → Form

-- `k]`
unfoldable pub closed_in : List Token → Option (ℕ × List Token)
closed_in tokens = do
  k ← after_number tokens
  rest ← after_mark 93 k.1
  Some (k.0, rest)

-- the operand of a number that was read
abbrev pub with_number : (ℕ → Form) → ℕ × List Token → Option (Form × List Token)
with_number form k = Some (form k.0, k.1)

-- `k]` or `x+k]`, after `[`
abbrev pub indexed_or : List Token → Option (List Token) → Option (Form × List Token)
indexed_or tokens None = closed_in tokens >>= with_number absolute_form
indexed_or tokens (Some rest) = after_mark 43 rest >>= closed_in >>= with_number indexed_form

unfoldable pub bracket_in : List Token → Option (Form × List Token)
bracket_in tokens = indexed_or tokens (after_word (codes "x") tokens)

-- `*([k]&0xf)`, after a number that must be 4
unfoldable pub header_in : ℕ → List Token → Option (Form × List Token)
header_in four tokens = do
  star ← after_mark 42 tokens
  parenthesis ← after_mark 40 star
  bracket ← after_mark 91 parenthesis
  k ← closed_in bracket
  masked ← after_mark 38 k.1
  mask ← after_number masked
  rest ← after_mark 41 mask.1
  if (four == 4) && (mask.0 == 15) then Some (header_form k.0, rest) else None

-- the rest after a word: `[k]` after `M`, else the word is alone
abbrev pub cell_or : List ℕ → List Token → Option (List Token) → Option (Form × List Token)
cell_or name tokens None = Some (name_form name, tokens)
cell_or name tokens (Some rest) = if bytes_eq name (codes "M") then closed_in rest >>= with_number cell_form else None

unfoldable pub named_in : List ℕ → List Token → Option (Form × List Token)
named_in name tokens = cell_or name tokens (after_mark 91 tokens)

-- a mark: `[`, `#` or `+`
abbrev pub number_behind : ℕ → ℕ × List Token → Option (Form × List Token)
number_behind b k =
    if b == 35 then Some (constant_form k.0, k.1) else if b == 43 then Some (skip_form k.0, k.1) else None

unfoldable pub marked_in : ℕ → List Token → Option (Form × List Token)
marked_in b tokens = if b == 91 then bracket_in tokens else after_number tokens >>= number_behind b

unfoldable pub form_in : List Token → Option (Form × List Token)
form_in [] = Some (nothing, [])
form_in (word name ∷ tokens) = named_in name tokens
form_in (number n ∷ tokens) = header_in n tokens
form_in (mark b ∷ tokens) = marked_in b tokens
form_in (stray ∷ tokens) = None

-- ---- instructions

abbrev pub on_name : List ℕ → List ℕ → Insn → Option Insn
on_name name expected insn = if bytes_eq name expected then Some insn else None

unfoldable pub word_load : Form → Option Insn
word_load (absolute_form k) = Some (LoadAbsolute Word k)
word_load (indexed_form k) = Some (LoadIndexed Word k)
word_load (constant_form k) = Some (LoadConstant k)
word_load (cell_form k) = Some (LoadCell k)
word_load (name_form name) = on_name name (codes "len") LoadLength
word_load _ = None

unfoldable pub short_load : Size → Form → Option Insn
short_load size (absolute_form k) = Some (LoadAbsolute size k)
short_load size (indexed_form k) = Some (LoadIndexed size k)
short_load size _ = None

unfoldable pub x_load : Form → Option Insn
x_load (constant_form k) = Some (LoadXConstant k)
x_load (cell_form k) = Some (LoadXCell k)
x_load (header_form k) = Some (LoadXHeader k)
x_load (name_form name) = on_name name (codes "len") LoadXLength
x_load _ = None

unfoldable pub cell_operand : Form → Option ℕ
cell_operand (cell_form k) = Some k
cell_operand _ = None

unfoldable pub alone : Insn → Form → Option Insn
alone insn nothing = Some insn
alone insn _ = None

unfoldable pub return_of : Form → Option Insn
return_of (constant_form k) = Some (ReturnConstant k)
return_of (name_form name) = on_name name (codes "a") ReturnA
return_of _ = None

unfoldable pub operand_of : Form → Option Operand
operand_of (constant_form k) = Some (K k)
operand_of (name_form name) = if bytes_eq name (codes "x") then Some X else None
operand_of _ = None

unfoldable pub operation_of : List ℕ → Option Operation
operation_of name =
    if bytes_eq name (codes "add") then Some Add
    else if bytes_eq name (codes "sub") then Some Sub
    else if bytes_eq name (codes "mul") then Some Mul
    else if bytes_eq name (codes "div") then Some Div
    else if bytes_eq name (codes "or") then Some Or
    else if bytes_eq name (codes "and") then Some And
    else if bytes_eq name (codes "lsh") then Some Lsh
    else if bytes_eq name (codes "rsh") then Some Rsh
    else if bytes_eq name (codes "mod") then Some Mod
    else if bytes_eq name (codes "xor") then Some Xor
    else None

unfoldable pub test_of : List ℕ → Option Test
test_of name =
    if bytes_eq name (codes "jeq") then Some Equal
    else if bytes_eq name (codes "jgt") then Some Greater
    else if bytes_eq name (codes "jge") then Some GreaterOrEqual
    else if bytes_eq name (codes "jset") then Some CommonBit
    else None

-- an instruction that is no jump and no operation with an operand
unfoldable pub other_insn : List ℕ → Form → Option Insn
other_insn name form =
    if bytes_eq name (codes "ld") then word_load form
    else if bytes_eq name (codes "ldh") then short_load Half form
    else if bytes_eq name (codes "ldb") then short_load Byte form
    else if bytes_eq name (codes "ldx") then x_load form
    else if bytes_eq name (codes "st") then option_map Store (cell_operand form)
    else if bytes_eq name (codes "stx") then option_map StoreX (cell_operand form)
    else if bytes_eq name (codes "ret") then return_of form
    else if bytes_eq name (codes "neg") then alone Negate form
    else if bytes_eq name (codes "tax") then alone CopyToX form
    else if bytes_eq name (codes "txa") then alone CopyFromX form
    else None

abbrev pub operation_or : List ℕ → Form → Option Operation → Option Insn
operation_or name form None = other_insn name form
operation_or name form (Some operation) = option_map (Alu operation) (operand_of form)

unfoldable pub insn_in : List ℕ → Form → Option Insn
insn_in name form = operation_or name form (operation_of name)

unfoldable pub far_of : Form → Option Target
far_of (skip_form k) = Some (skips k)
far_of (name_form name) = Some (goes_to name)
far_of _ = None

-- a target of a conditional jump, and what follows
unfoldable pub near_in : List Token → Option (Target × List Token)
near_in (number k ∷ tokens) = Some (skips k, tokens)
near_in (word name ∷ tokens) = Some (goes_to name, tokens)
near_in _ = None

-- no token is left
abbrev pub is_end : List Token → Bool
is_end [] = true
is_end (token ∷ tokens) = false

abbrev pub at_end : {A : Type 0} → List Token → A → Option A
at_end tokens found = if is_end tokens then Some found else None

-- a conditional jump whose operand was read: the tokens have its targets
unfoldable pub branch_behind : Test → Form → List Token → Option Statement
branch_behind test form tokens = do
  right ← operand_of form
  yes_at ← after_mark 44 tokens
  on_true ← near_in yes_at
  no_at ← after_mark 44 on_true.1
  on_false ← near_in no_at
  at_end on_false.1 (branch test right on_true.0 on_false.0)

unfoldable pub branch_in : Test → List Token → Option Statement
branch_in test tokens = do
  form ← form_in tokens
  branch_behind test form.0 form.1

-- a statement that is no conditional jump, of a mnemonic and an operand
unfoldable pub unbranched : List ℕ → Form → Option Statement
unbranched name form = if bytes_eq name (codes "ja") then option_map jump (far_of form) else option_map plain (insn_in name form)

unfoldable pub unbranched_in : List ℕ → List Token → Option Statement
unbranched_in name tokens = do
  form ← form_in tokens
  ended ← at_end form.1 form.0
  unbranched name ended

abbrev pub branch_or : List ℕ → List Token → Option Test → Option Statement
branch_or name tokens None = unbranched_in name tokens
branch_or name tokens (Some test) = branch_in test tokens

unfoldable pub statement_in : List ℕ → List Token → Option Statement
statement_in name tokens = branch_or name tokens (test_of name)

-- ---- lines

abbrev pub line : Option (List ℕ) → Option Statement → Line
line label statement = record { label = label; statement = statement }

-- an instruction or nothing
unfoldable pub rest_in : List Token → Option (Option Statement)
rest_in [] = Some None
rest_in (word name ∷ tokens) = option_map (λ statement. Some statement) (statement_in name tokens)
rest_in _ = None

abbrev pub label_or : List ℕ → List Token → Option (List Token) → Option Line
label_or name tokens None = option_map (λ statement. line None (Some statement)) (statement_in name tokens)
label_or name tokens (Some rest) = option_map (λ statement. line (Some name) statement) (rest_in rest)

unfoldable pub line_in : List Token → Option Line
line_in [] = Some (line None None)
line_in (word name ∷ tokens) = label_or name tokens (after_mark 58 tokens)
line_in _ = None

unfoldable pub read_line : List ℕ → Option Line
read_line bytes = line_in (tokens_of bytes)

-- the line that the bytes are, without anything on it if they are in no form
abbrev pub line_at : List ℕ → Line
line_at bytes = unwrap_or (read_line bytes) (line None None)

-- the lines of a text
abbrev pub lines_read : List ℕ → List Line
lines_read text = map line_at (lines_of text)

-- the first line in no form, of lines from line n on
abbrev pub form_fault : ℕ → Option Line → Option AsmFault
form_fault n None = Some (Syntax n)
form_fault n (Some found) = None

abbrev pub forms_fault : ℕ → List (List ℕ) → Option AsmFault
forms_fault n [] = None
forms_fault n (bytes ∷ lines) = first_of (form_fault n (read_line bytes)) (forms_fault (n + 1) lines)
