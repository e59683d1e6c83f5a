-- The fault of a program's text that means no program (docs/COMMANDS.md, "Refusals").
use Rattle.std.specs.Prelude.{◌≡◌, ◌<◌, ◌≤◌, List, ℕ}
use Rattle.bpf_asm.specs.Assembly.{Assembles, IsFaultOf}
use Rattle.bpf_asm.specs.declared.fault.AsmFault.{AsmFault}
use Rattle.bpf_asm.specs.declared.fault.AsmFault.TheVariants as asm
use Rattle.bpf_verify.specs.Fault.{IsFirstFault}
use Rattle.bpf_verify.specs.declared.TheConstants.{CELLS, MAX_INSTRUCTIONS}
use Rattle.filter_compile.specs.declared.fault.CompileFault.{CompileFault}
use Rattle.filter_compile.specs.declared.fault.CompileFault.TheVariants as compile
use Rattle.filter_parse.specs.Fault.{HasFault, HasTree}
use Rattle.filter_parse.specs.declared.fault.ParseFault.{ParseFault}
use Rattle.filter_parse.specs.declared.fault.ParseFault.TheVariants as parse
use Rattle.filter_tree.specs.Measure.{cells_of, size_of}
use Rattle.filter_tree.specs.Tree.{Tree}
use Rattle.filter_program.specs.Program.{IsMeaningOf, Source, TextProgram, assembly, expression}
use Rattle.filter_program.specs.declared.fault.TextFault.{TextFault}
use Rattle.filter_program.specs.declared.fault.TextFault.TheVariants.{Assembly, Compiling, Expression, OutOfMemory, Words}

-- it is not assembly; otherwise its words are not accepted
abbrev pub IsAssemblyFault : List ℕ → TextFault → Type 0
IsAssemblyFault text (Assembly fault) = IsFaultOf text fault
IsAssemblyFault text (Words fault) = (words : List ℕ) × Assembles text words × IsFirstFault words fault
IsAssemblyFault text _ = ⊥

-- it is not an expression; otherwise the expression needs too many cells; otherwise it is too long
abbrev pub IsExpressionFault : List ℕ → TextFault → Type 0
IsExpressionFault text (Expression parse.OutOfMemory) = ⊥
IsExpressionFault text (Expression fault) = HasFault text fault
IsExpressionFault text (Compiling compile.CellsExceeded) = (tree : Tree) × HasTree text tree × (CELLS < cells_of tree)
IsExpressionFault text (Compiling compile.TooLong) =
    (tree : Tree) × HasTree text tree × (cells_of tree ≤ CELLS) × (MAX_INSTRUCTIONS < size_of tree)
IsExpressionFault text _ = ⊥

abbrev pub IsFaultOfText : Source → TextFault → Type 0
IsFaultOfText (assembly text) fault = IsAssemblyFault text fault
IsFaultOfText (expression text) fault = IsExpressionFault text fault

-- a text means at most one program
abbrev pub HasOneProgram : Type 0
HasOneProgram = (source : Source) (one other : TextProgram) → IsMeaningOf source one → IsMeaningOf source other → one ≡ other

-- it has at most one fault
abbrev pub HasOneFault : Type 0
HasOneFault = (source : Source) (one other : TextFault) → IsFaultOfText source one → IsFaultOfText source other → one ≡ other

-- and never both
abbrev pub HasNotBoth : Type 0
HasNotBoth = (source : Source) (program : TextProgram) (fault : TextFault) → IsMeaningOf source program → ¬ IsFaultOfText source fault

-- lack of memory is one fault, whichever step it stopped
abbrev pub fault_of_assembly : AsmFault → TextFault
fault_of_assembly asm.OutOfMemory = OutOfMemory
fault_of_assembly fault = Assembly fault

abbrev pub fault_of_expression : ParseFault → TextFault
fault_of_expression parse.OutOfMemory = OutOfMemory
fault_of_expression fault = Expression fault

abbrev pub fault_of_compiling : CompileFault → TextFault
fault_of_compiling compile.OutOfMemory = OutOfMemory
fault_of_compiling fault = Compiling fault
