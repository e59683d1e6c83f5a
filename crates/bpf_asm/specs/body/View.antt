-- Tokens, operands, statements, lines and labels as contracts see them: their texts, without their places.
use Rattle.std.specs.Prelude.{◌≡◌, ◌+◌, ◌-◌, ◌∷◌, ◌++◌, ◌⊎◌, Bool, Err, IsSome, List, None, Ok, Option, Result, Some, [], if◌then◌else◌, length, nat_le, ℕ}
use Rattle.std.specs.Borrow.{Bor}
use Rattle.std.specs.Char.{is_ascii_alphanumeric}
use Rattle.std.specs.BTreeMap.{BTreeMap, get_by}
use Rattle.std.specs.Cmp.Lexicographic.{slice_cmp}
use Rattle.std.specs.Map.{update}
use Rattle.std.specs.Option.{option_map}
use Rattle.std.specs.Ordering.{nat_cmp}
use Rattle.std.specs.Str.{bytes_eq}
use Rattle.bpf_insn.specs.declared.instruction.Insn.{Insn}
use Rattle.bpf_insn.specs.Word.{word_of}
use Rattle.bpf_asm.specs.declared.token.Kind.{Kind}
use Rattle.bpf_asm.specs.declared.token.Kind.TheVariants as kind
use Rattle.bpf_asm.specs.declared.token.Token.{Token as LentToken}
use Rattle.bpf_asm.specs.declared.token.Token.TheVariants as token
use Rattle.bpf_asm.specs.declared.operand.Form.{Form as LentForm}
use Rattle.bpf_asm.specs.declared.operand.Form.TheVariants as form
use Rattle.bpf_asm.specs.declared.statement.Statement.{Statement as LentStatement}
use Rattle.bpf_asm.specs.declared.statement.Statement.TheVariants as statement
use Rattle.bpf_asm.specs.declared.statement.Target.{Target as LentTarget}
use Rattle.bpf_asm.specs.declared.statement.Target.TheVariants as target
use Rattle.bpf_asm.specs.declared.fault.AsmFault.{AsmFault}
use Rattle.bpf_asm.specs.declared.fault.AsmFault.TheVariants.{BackwardJump, DoubleLabel, OutOfMemory, UnknownLabel}
use Rattle.bpf_asm.specs.declared.line.Heading.{Heading as LentHeading}
use Rattle.bpf_asm.specs.declared.line.Line.{Line as LentLine}
use Rattle.bpf_asm.specs.Line.{lines_of}
use Rattle.bpf_asm.specs.body.Reading.{Form, absolute_form, cell_form, constant_form, header_form, indexed_form, line, name_form, nothing, skip_form, statement_in, tokens_of}
use Rattle.bpf_asm.specs.Statement.{Line, Statement, Target, branch, goes_to, jump, plain, skips}
use Rattle.bpf_asm.specs.Target.{IsInsnOf}
use Rattle.bpf_asm.specs.Token.{Token, is_gap, is_in_word, mark, number, stray, word}

abbrev pub is_of : Kind → ℕ → Bool
is_of kind.Gap b = is_gap b
is_of kind.Word b = is_in_word b
is_of kind.Number b = is_ascii_alphanumeric b

abbrev pub token_of : LentToken → Token
token_of (token.Word name) = word name.now
token_of (token.Number n) = number n
token_of (token.Mark b) = mark b
token_of token.Stray = stray

abbrev pub form_of : LentForm → Form
form_of form.Nothing = nothing
form_of (form.Absolute k) = absolute_form k
form_of (form.Indexed k) = indexed_form k
form_of (form.Constant k) = constant_form k
form_of (form.Cell k) = cell_form k
form_of (form.Header k) = header_form k
form_of (form.Skip k) = skip_form k
form_of (form.Name name) = name_form name.now

abbrev pub target_of : LentTarget → Target
target_of (target.Skips k) = skips k
target_of (target.GoesTo name) = goes_to name.now

abbrev pub statement_of : LentStatement → Statement
statement_of (statement.Plain insn) = plain insn
statement_of (statement.Jump to) = jump (target_of to)
statement_of (statement.Branch test right on_true on_false) = branch test right (target_of on_true) (target_of on_false)

abbrev pub line_of : LentLine → Line
line_of it = record { label = option_map (λ name. name.now) it.label; statement = option_map statement_of it.statement }

-- the line of a label and a mnemonic, whose operand is read from the bytes after it
abbrev pub line_of_heading : Option (Bor (List ℕ)) → Option (Bor (List ℕ) × Bor (List ℕ)) → Option Line
line_of_heading label None = Some (line (option_map (λ name. name.now) label) None)
line_of_heading label (Some (name, rest)) =
    option_map (λ statement. line (option_map (λ it. it.now) label) (Some statement)) (statement_in name.now (tokens_of rest.now))

-- the line of what was read of it so far, none if that is in no form
abbrev pub line_begun : Option LentHeading → Option Line
line_begun None = None
line_begun (Some heading) = line_of_heading heading.label heading.mnemonic

-- the addition of a line to the lines, nothing if it is in no form
abbrev pub one_or_none : Option Line → List Line
one_or_none None = []
one_or_none (Some it) = it ∷ []

-- the lines of what is left of a text, none if its last line was taken
abbrev pub lines_left : Option (Bor (List ℕ)) → List (List ℕ)
lines_left None = []
lines_left (Some text) = lines_of text.now

-- how many bytes are left, and one more if a line is left
abbrev pub left_len : Option (Bor (List ℕ)) → ℕ
left_len None = 0
left_len (Some text) = length text.now + 1

-- the place of a name among the labels
abbrev pub place_among : BTreeMap (Bor (List ℕ)) ℕ → List ℕ → Option ℕ
place_among labels name = get_by (λ key. slice_cmp nat_cmp name key.now) labels

-- a line's label was added, none is there or none was known by its name
abbrev pub Defines : (List ℕ → Option ℕ) → Option (List ℕ) → ℕ → (List ℕ → Option ℕ) → Type 0
Defines places None place after = (name : List ℕ) → after name ≡ places name
Defines places (Some name) place after =
    (places name ≡ None) × ((other : List ℕ) → after other ≡ update bytes_eq places name (Some place) other)

-- a line's label was known by its name, unless memory was refused
abbrev pub IsDefinedAgain : (List ℕ → Option ℕ) → Option (List ℕ) → ℕ → AsmFault → Type 0
IsDefinedAgain places None n fault = ⊥
IsDefinedAgain places (Some name) n fault = (fault ≡ OutOfMemory) ⊎ (IsSome (places name) × (fault ≡ DoubleLabel n))

-- this is the fault, unless memory was refused
abbrev pub UnlessMemory : AsmFault → Option AsmFault → Type 0
UnlessMemory fault found = (fault ≡ OutOfMemory) ⊎ (found ≡ Some fault)

-- how far a place is after the instruction that follows the one at pc, of line n
abbrev pub distance_to : ℕ → ℕ → Option ℕ → Result ℕ AsmFault
distance_to pc n None = Err (UnknownLabel n)
distance_to pc n (Some place) = if nat_le place pc then Err (BackwardJump n) else Ok (place - (pc + 1))

-- the word of a statement was added, if there is a statement
abbrev pub AddsWord : (List ℕ → Option ℕ) → List ℕ → Option Statement → List ℕ → Type 0
AddsWord places words None after = after ≡ words
AddsWord places words (Some statement) after =
    (insn : Insn) × IsInsnOf places (length words) statement insn × (after ≡ words ++ word_of insn ∷ [])
