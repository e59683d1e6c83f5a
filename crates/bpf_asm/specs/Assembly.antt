-- Which words an assembly text is, and what is wrong with another text (docs/MACHINE.md, "Assembly text").
use Rattle.std.specs.Prelude.{◌≡◌, ◌+◌, ◌∷◌, ◌++◌, List, None, Option, Some, [], length, ℕ}
use Rattle.std.specs.List.{AllZip}
use Rattle.bpf_asm.specs.declared.fault.AsmFault.{AsmFault}
use Rattle.bpf_asm.specs.declared.fault.AsmFault.TheVariants.{BackwardJump, DoubleLabel, OutOfMemory, Syntax, TooFar, UnknownLabel}
use Rattle.bpf_asm.specs.Line.{lines_of}
use Rattle.bpf_asm.specs.Statement.{Line, Spells_line}
use Rattle.bpf_asm.specs.Target.{IsCode, doubles_fault, first_of, labels_from, place_in, statements_of, targets_fault}

-- the place of each name in these lines
abbrev pub places_of : List Line → List ℕ → Option ℕ
places_of lines name = place_in (labels_from 0 lines) name

-- the fault of lines that each are in a form: first a name defined again, else a target
abbrev pub fault_of_lines : List Line → Option AsmFault
fault_of_lines lines = first_of (doubles_fault [] 1 lines) (targets_fault (places_of lines) 0 1 lines)

-- a text is these lines
abbrev pub IsLines : List ℕ → List Line → Type 0
IsLines text lines = AllZip Spells_line (lines_of text) lines

-- a text is assembled to these words: each line is in a form, no name is defined twice, and each target has its offset
pub record Assembles (text words : List ℕ) : Type 0 where
  pub lines : List Line
  pub in_form : IsLines text lines
  pub names_apart : doubles_fault [] 1 lines ≡ None
  pub code : IsCode (places_of lines) 0 (statements_of lines) words

-- line n is the first that is in no form
pub record IsFirstOutOfForm (text : List ℕ) (n : ℕ) : Type 0 where
  pub before : List (List ℕ)
  pub bad : List ℕ
  pub after : List (List ℕ)
  pub good : List Line
  pub cut : lines_of text ≡ before ++ bad ∷ after
  pub before_in_form : AllZip Spells_line before good
  pub in_no_form : (line : Line) → Spells_line bad line → ⊥
  pub number : n ≡ length before + 1

-- each line is in a form, and this is wrong with the lines
pub record HasFaultOfLines (text : List ℕ) (fault : AsmFault) : Type 0 where
  pub lines : List Line
  pub in_form : IsLines text lines
  pub first : fault_of_lines lines ≡ Some fault

-- the fault of a text
abbrev pub IsFaultOf : List ℕ → AsmFault → Type 0
IsFaultOf text (Syntax n) = IsFirstOutOfForm text n
IsFaultOf text (DoubleLabel n) = HasFaultOfLines text (DoubleLabel n)
IsFaultOf text (UnknownLabel n) = HasFaultOfLines text (UnknownLabel n)
IsFaultOf text (BackwardJump n) = HasFaultOfLines text (BackwardJump n)
IsFaultOf text (TooFar n) = HasFaultOfLines text (TooFar n)
IsFaultOf text OutOfMemory = ⊥

-- the fault of a text, unless memory was refused
abbrev pub IsFaultOrMemory : List ℕ → AsmFault → Type 0
IsFaultOrMemory text (Syntax n) = IsFaultOf text (Syntax n)
IsFaultOrMemory text (DoubleLabel n) = IsFaultOf text (DoubleLabel n)
IsFaultOrMemory text (UnknownLabel n) = IsFaultOf text (UnknownLabel n)
IsFaultOrMemory text (BackwardJump n) = IsFaultOf text (BackwardJump n)
IsFaultOrMemory text (TooFar n) = IsFaultOf text (TooFar n)
IsFaultOrMemory text OutOfMemory = Unit {0}

-- a text has at most one value
abbrev pub HasOneValue : Type 0
HasOneValue = (text a b : List ℕ) → Assembles text a → Assembles text b → a ≡ b

-- at most one fault
abbrev pub HasOneFault : Type 0
HasOneFault = (text : List ℕ) (a b : AsmFault) → IsFaultOf text a → IsFaultOf text b → a ≡ b

-- and never both
abbrev pub HasNotBoth : Type 0
HasNotBoth = (text words : List ℕ) (fault : AsmFault) → Assembles text words → IsFaultOf text fault → ⊥
