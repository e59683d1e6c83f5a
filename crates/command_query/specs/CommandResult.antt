-- The result of each command (docs/COMMANDS.md).
use Rattle.std.specs.Prelude.{◌≡◌, ◌++◌, ◌^◌, IsTrue, List, Option, codes, decimal, false, length, min, string_bytes, true, ℕ, ◌↔◌}
use Rattle.bpf_asm.specs.Text.{printed}
use Rattle.bpf_machine.specs.Meaning.{Ret, cost_of, ending_of}
use Rattle.bpf_verify.specs.Program.{ProgramValue}
use Rattle.filter_tree.specs.Tree.{Tree}
use Rattle.filter_tree.specs.Truth.{accepts}
use Rattle.filter_program.specs.Program.{IsCompilable, IsProgramOfExpression}
use Rattle.command_query.specs.Format.{IsProgramIn, listing_text}
use Rattle.command_query.specs.declared.format.InputFormat.{InputFormat}
use Rattle.command_query.specs.declared.format.OutputFormat.{OutputFormat}
use Rattle.command_query.specs.declared.format.OutputFormat.TheVariants.{Assembly, Dd, Ddd, Hex}
use Rattle.command_query.specs.declared.command_result.CommandResult.{CommandResult}
use Rattle.command_query.specs.declared.command_result.CommandResult.TheVariants.{Accepted, Compiled, Explained, Judged, Listed, Packed, Ran, Versions}
use Rattle.command_explain.specs.Explanation.{IsExplanation}
use Rattle.command_explain.specs.Printed.{ShowsCode}
use Rattle.command_query.specs.FirstPath.{line_text}
use Rattle.selector_buckets.specs.Shares.{ids_of, weights_of}
use Rattle.selector_buckets.specs.Turns.{table_of}
use Rattle.selector_buckets.specs.Words.{selector_words}
use Rattle.selector_buckets.specs.declared.hash.HashBy.{HashBy}
use Rattle.selector_buckets.specs.declared.share.Share.{Share}

-- the lines of a result
abbrev pub answer_text : CommandResult → List ℕ
answer_text (Versions at_first at_second) = line_text at_first ++ codes "\n" ++ line_text at_second ++ codes "\n"
answer_text (Accepted count) = codes "accepted " ++ decimal count ++ codes "\n"
answer_text (Ran value steps kept) =
    codes "value " ++ decimal value ++ codes " steps " ++ decimal steps ++ codes " kept " ++ decimal kept ++ codes "\n"
answer_text (Compiled charge listing) = codes "charge " ++ decimal charge ++ codes "\n" ++ string_bytes listing
answer_text (Listed listing) = string_bytes listing
answer_text (Judged true) = codes "accept\n"
answer_text (Judged false) = codes "reject\n"
answer_text (Packed digits) = string_bytes digits ++ codes "\n"
answer_text (Explained text) = text.now ++ codes "\n"

-- ---- programs, given as texts

-- the program's number of instructions
abbrev pub IsCheckAnswer : InputFormat → List ℕ → CommandResult → Type 0
IsCheckAnswer format text (Accepted count) = (words : List ℕ) × IsProgramIn format text words × (count ≡ length words)
IsCheckAnswer format text _ = ⊥

-- the program ends so on the packet, after so many instructions, and keeps the lesser of its value and the packet's length
pub record IsRunOfWords (words packet : List ℕ) (value steps kept : ℕ) : Type 0 where
  pub value_is : ending_of words packet ≡ Ret value
  pub steps_is : steps ≡ cost_of words packet
  pub kept_is : kept ≡ min value (length packet)

abbrev pub IsRunAnswer : List ℕ → InputFormat → List ℕ → CommandResult → Type 0
IsRunAnswer packet format text (Ran value steps kept) =
    (words : List ℕ) × IsProgramIn format text words × IsRunOfWords words packet value steps kept
IsRunAnswer packet format text _ = ⊥

-- ---- expressions

-- the charge and the text of the program
abbrev pub IsAssemblyOf : List ℕ → CommandResult → Type 0
IsAssemblyOf text (Compiled charge listing) =
    (program : ProgramValue)
    × IsProgramOfExpression text program
    × (charge ≡ program.charge)
    × (string_bytes listing ≡ printed program.words)
IsAssemblyOf text _ = ⊥

-- the text of the program alone
abbrev pub IsListingOf : OutputFormat → List ℕ → CommandResult → Type 0
IsListingOf format text (Listed listing) =
    (program : ProgramValue) × IsProgramOfExpression text program × (string_bytes listing ≡ listing_text format program.words)
IsListingOf format text _ = ⊥

-- the charge is in front of assembly text only
abbrev pub IsCompileAnswer : OutputFormat → List ℕ → CommandResult → Type 0
IsCompileAnswer Assembly text answer = IsAssemblyOf text answer
IsCompileAnswer Ddd text answer = IsListingOf Ddd text answer
IsCompileAnswer Dd text answer = IsListingOf Dd text answer
IsCompileAnswer Hex text answer = IsListingOf Hex text answer

-- whether the expression is true of the packet
abbrev pub IsJudgeAnswer : List ℕ → List ℕ → CommandResult → Type 0
IsJudgeAnswer packet text (Judged is_accepted) =
    (tree : Tree) × IsCompilable text tree × (IsTrue is_accepted ↔ accepts tree packet)
IsJudgeAnswer packet text _ = ⊥

-- ---- members

-- the text of the selector of the table that the members share
abbrev pub IsSpreadAnswer : ℕ → HashBy → List Share → CommandResult → Type 0
IsSpreadAnswer depth by shares (Listed listing) =
    string_bytes listing ≡ printed (selector_words by (record { depth = depth; members = table_of (ids_of shares) (weights_of shares) (2 ^ depth) }))
IsSpreadAnswer depth by shares _ = ⊥

-- ---- codes

-- the explanation of the code that the text shows
abbrev pub IsExplainAnswer : List ℕ → CommandResult → Type 0
IsExplainAnswer text (Explained told) =
    (code : List ℕ) × (line : Option ℕ) × ShowsCode text code line × IsExplanation code told.now
IsExplainAnswer text _ = ⊥
