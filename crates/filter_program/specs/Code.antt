-- The codes of faults (docs/COMMANDS.md, "Refusals").
use Rattle.std.specs.Prelude.{codes}
use Rattle.bpf_asm.specs.Code.{asm_code}
use Rattle.bpf_verify.specs.Code.{verify_code}
use Rattle.fault_code.specs.Code.{plain}
use Rattle.fault_code.specs.declared.Code.{Code}
use Rattle.filter_compile.specs.Code.{compile_code}
use Rattle.filter_parse.specs.Code.{parse_code}
use Rattle.filter_program.specs.declared.fault.TextFault.{TextFault}
use Rattle.filter_program.specs.declared.fault.TextFault.TheVariants.{Assembly, Compiling, Expression, OutOfMemory, Words}

abbrev pub text_code : TextFault → Code
text_code (Assembly fault) = asm_code fault
text_code (Words fault) = verify_code fault
text_code (Expression fault) = parse_code fault
text_code (Compiling fault) = compile_code fault
text_code OutOfMemory = plain (codes "A") 6
