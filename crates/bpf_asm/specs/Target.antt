-- Labels, and the targets of jumps (docs/MACHINE.md, "Assembly text"). Places count instructions from 0, lines from 1.
use Rattle.std.specs.Prelude.{◌≡◌, ◌+◌, ◌-◌, ◌≤◌, ◌∷◌, Bool, List, None, Option, Some, [], false, if◌then◌else◌, nat_le, ℕ}
use Rattle.std.specs.List.{list_any}
use Rattle.std.specs.Map.{lookup}
use Rattle.std.specs.Str.{bytes_eq}
use Rattle.bpf_insn.specs.declared.instruction.Insn.{Insn}
use Rattle.bpf_insn.specs.declared.instruction.Insn.TheVariants.{Jump, JumpIf}
use Rattle.bpf_insn.specs.Table.{offsets}
use Rattle.bpf_insn.specs.Word.{word_of}
use Rattle.bpf_asm.specs.declared.fault.AsmFault.{AsmFault}
use Rattle.bpf_asm.specs.declared.fault.AsmFault.TheVariants.{BackwardJump, DoubleLabel, TooFar, UnknownLabel}
use Rattle.bpf_asm.specs.Statement.{Line, Statement, Target, branch, goes_to, jump, plain, skips}

-- how many instructions a line has
abbrev pub count_of : Option Statement → ℕ
count_of None = 0
count_of (Some statement) = 1

-- the instructions of the lines, in order
abbrev pub with_statement : Option Statement → List Statement → List Statement
with_statement None statements = statements
with_statement (Some statement) statements = statement ∷ statements

abbrev pub statements_of : List Line → List Statement
statements_of [] = []
statements_of (line ∷ lines) = with_statement line.statement (statements_of lines)

-- the labels of the lines, each with the place of the instruction that follows it; at the end that is the place after the last
-- instruction
abbrev pub with_label : Option (List ℕ) → ℕ → List (List ℕ × ℕ) → List (List ℕ × ℕ)
with_label None place labels = labels
with_label (Some name) place labels = (name, place) ∷ labels

abbrev pub labels_from : ℕ → List Line → List (List ℕ × ℕ)
labels_from place [] = []
labels_from place (line ∷ lines) = with_label line.label place (labels_from (place + count_of line.statement) lines)

-- the place of a name
abbrev pub place_in : List (List ℕ × ℕ) → List ℕ → Option ℕ
place_in labels name = lookup (bytes_eq name) labels

-- the greatest offsets of `ja` and of a conditional jump
abbrev pub FARTHEST : ℕ
FARTHEST = 4294967295

abbrev pub FARTHEST_BRANCH : ℕ
FARTHEST_BRANCH = 255

-- the instruction at pc gets this offset by the target: the number, or the label's place less pc + 1
abbrev pub IsOffset : (List ℕ → Option ℕ) → ℕ → Target → ℕ → Type 0
IsOffset places pc (skips k) offset = offset ≡ k
IsOffset places pc (goes_to name) offset = places name ≡ Some (pc + 1 + offset)

-- the statement at pc is this instruction
abbrev pub IsInsnOf : (List ℕ → Option ℕ) → ℕ → Statement → Insn → Type 0
IsInsnOf places pc (plain insn) it = it ≡ insn
IsInsnOf places pc (jump target) it = (k : ℕ) × IsOffset places pc target k × (k ≤ FARTHEST) × (it ≡ Jump k)
IsInsnOf places pc (branch test right on_true on_false) it =
    (jt jf : ℕ)
    × IsOffset places pc on_true jt
    × (jt ≤ FARTHEST_BRANCH)
    × IsOffset places pc on_false jf
    × (jf ≤ FARTHEST_BRANCH)
    × (it ≡ JumpIf test right (offsets jt jf))

-- the statements from place pc on are these words
abbrev pub IsCode : (List ℕ → Option ℕ) → ℕ → List Statement → List ℕ → Type 0
IsCode places pc [] words = words ≡ []
IsCode places pc (statement ∷ statements) words =
    (insn : Insn)
    × (rest : List ℕ)
    × (words ≡ word_of insn ∷ rest)
    × IsInsnOf places pc statement insn
    × IsCode places (pc + 1) statements rest

-- the fault of a target of line n, at the place of its name
abbrev pub place_fault : ℕ → ℕ → ℕ → Option ℕ → Option AsmFault
place_fault pc most n None = Some (UnknownLabel n)
place_fault pc most n (Some place) =
    if nat_le place pc then Some (BackwardJump n) else if nat_le (place - (pc + 1)) most then None else Some (TooFar n)

abbrev pub target_fault : (List ℕ → Option ℕ) → ℕ → ℕ → ℕ → Target → Option AsmFault
target_fault places pc most n (skips k) = if nat_le k most then None else Some (TooFar n)
target_fault places pc most n (goes_to name) = place_fault pc most n (places name)

-- the first of two faults, none if there is none
abbrev pub first_of : Option AsmFault → Option AsmFault → Option AsmFault
first_of None second = second
first_of (Some fault) second = Some fault

abbrev pub statement_fault : (List ℕ → Option ℕ) → ℕ → ℕ → Option Statement → Option AsmFault
statement_fault places pc n None = None
statement_fault places pc n (Some (plain insn)) = None
statement_fault places pc n (Some (jump target)) = target_fault places pc FARTHEST n target
statement_fault places pc n (Some (branch test right on_true on_false)) =
    first_of (target_fault places pc FARTHEST_BRANCH n on_true) (target_fault places pc FARTHEST_BRANCH n on_false)

-- the first fault of a target in the lines from line n on, of which the first instruction is at pc
abbrev pub targets_fault : (List ℕ → Option ℕ) → ℕ → ℕ → List Line → Option AsmFault
targets_fault places pc n [] = None
targets_fault places pc n (line ∷ lines) =
    first_of (statement_fault places pc n line.statement) (targets_fault places (pc + count_of line.statement) (n + 1) lines)

-- the first line from line n on that defines a name again; earlier are the names defined before it
abbrev pub defines_again : List (List ℕ) → Option (List ℕ) → Bool
defines_again earlier None = false
defines_again earlier (Some name) = list_any (bytes_eq name) earlier

abbrev pub with_name : Option (List ℕ) → List (List ℕ) → List (List ℕ)
with_name None names = names
with_name (Some name) names = name ∷ names

abbrev pub doubles_fault : List (List ℕ) → ℕ → List Line → Option AsmFault
doubles_fault earlier n [] = None
doubles_fault earlier n (line ∷ lines) =
    if defines_again earlier line.label
    then Some (DoubleLabel n)
    else doubles_fault (with_name line.label earlier) (n + 1) lines
