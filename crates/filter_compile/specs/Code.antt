-- The codes of faults (docs/COMMANDS.md, "Refusals").
use Rattle.std.specs.Prelude.{codes}
use Rattle.fault_code.specs.Code.{plain}
use Rattle.fault_code.specs.declared.Code.{Code}
use Rattle.filter_compile.specs.declared.fault.CompileFault.{CompileFault}
use Rattle.filter_compile.specs.declared.fault.CompileFault.TheVariants.{CellsExceeded, OutOfMemory, TooLong}

abbrev pub compile_code : CompileFault → Code
compile_code CellsExceeded = plain (codes "F") 1
compile_code TooLong = plain (codes "F") 2
compile_code OutOfMemory = plain (codes "F") 3
