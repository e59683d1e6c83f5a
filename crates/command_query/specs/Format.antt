-- The formats of programs: their names, and what a text is in each (docs/COMMANDS.md, "Formats of programs").
use Rattle.std.specs.Prelude.{◌++◌, List, None, Option, Some, codes, if◌then◌else◌, ℕ}
use Rattle.std.specs.Str.{bytes_eq}
use Rattle.bpf_asm.specs.Text.{printed}
use Rattle.bpf_verify.specs.Accepted.{IsAccepted}
use Rattle.bpf_verify.specs.Fault.{IsFirstFault}
use Rattle.control_line.specs.Reason.{IsRefusalOfAssembly}
use Rattle.control_line.specs.declared.reason.Reason.{Reason}
use Rattle.control_line.specs.declared.reason.Reason.TheVariants.{Text}
use Rattle.filter_program.specs.declared.fault.TextFault.TheVariants.{Words}
use Rattle.fault_code.specs.Code.{code_text}
use Rattle.bpf_formats.specs.Code.{format_code}
use Rattle.bpf_formats.specs.Ddd.{IsDdd, ddd_text}
use Rattle.bpf_formats.specs.Fault.{IsFaultOfDdd, IsFaultOfHex}
use Rattle.bpf_formats.specs.Hex.{IsHex, hex_text}
use Rattle.bpf_formats.specs.Initialiser.{dd_text}
use Rattle.bpf_formats.specs.declared.fault.FormatFault.{FormatFault}
use Rattle.filter_program.specs.Program.{IsAssembledTo}
use Rattle.command_query.specs.declared.format.InputFormat.{InputFormat}
use Rattle.command_query.specs.declared.format.InputFormat.TheVariants as input
use Rattle.command_query.specs.declared.format.OutputFormat.{OutputFormat}
use Rattle.command_query.specs.declared.format.OutputFormat.TheVariants as output

-- the format of a name, to read
abbrev pub input_format_of : List ℕ → Option InputFormat
input_format_of name =
    if bytes_eq name (codes "asm")
    then Some input.Assembly
    else if bytes_eq name (codes "ddd")
    then Some input.Ddd
    else if bytes_eq name (codes "hex")
    then Some input.Hex
    else None

-- and to print
abbrev pub output_format_of : List ℕ → Option OutputFormat
output_format_of name =
    if bytes_eq name (codes "asm")
    then Some output.Assembly
    else if bytes_eq name (codes "ddd")
    then Some output.Ddd
    else if bytes_eq name (codes "dd")
    then Some output.Dd
    else if bytes_eq name (codes "hex")
    then Some output.Hex
    else None

-- the text is these words in the format, and they are accepted
abbrev pub IsProgramIn : InputFormat → List ℕ → List ℕ → Type 0
IsProgramIn input.Assembly text words = IsAssembledTo text words
IsProgramIn input.Ddd text words = IsDdd text words × IsAccepted words
IsProgramIn input.Hex text words = IsHex text words × IsAccepted words

-- the words are refused for their first fault
abbrev pub IsRefusalOfWords : List ℕ → Reason → Type 0
IsRefusalOfWords words (Text (Words fault)) = IsFirstFault words fault
IsRefusalOfWords words _ = ⊥

-- the text is refused for the fault of its assembly, or of the words that it is in the format
abbrev pub IsRefusalOfProgram : InputFormat → List ℕ → Reason → Type 0
IsRefusalOfProgram input.Assembly text reason = IsRefusalOfAssembly text reason
IsRefusalOfProgram input.Ddd text reason = (words : List ℕ) × IsDdd text words × IsRefusalOfWords words reason
IsRefusalOfProgram input.Hex text reason = (words : List ℕ) × IsHex text words × IsRefusalOfWords words reason

-- the text is not in the format for this fault
abbrev pub IsFormatFault : InputFormat → List ℕ → FormatFault → Type 0
IsFormatFault input.Assembly text fault = ⊥
IsFormatFault input.Ddd text fault = IsFaultOfDdd text fault
IsFormatFault input.Hex text fault = IsFaultOfHex text fault

-- the report of such a fault
abbrev pub misformed_text : FormatFault → List ℕ
misformed_text fault = codes "refused " ++ code_text (format_code fault)

-- the text of a program in a format
abbrev pub listing_text : OutputFormat → List ℕ → List ℕ
listing_text output.Assembly words = printed words
listing_text output.Ddd words = ddd_text words
listing_text output.Dd words = dd_text words
listing_text output.Hex words = hex_text words
