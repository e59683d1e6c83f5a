-- The codes of faults (docs/COMMANDS.md, "Refusals").
use Rattle.std.specs.Prelude.{codes}
use Rattle.fault_code.specs.Code.{plain}
use Rattle.fault_code.specs.declared.Code.{Code}
use Rattle.retire.specs.declared.fault.PublishFault.{PublishFault}
use Rattle.retire.specs.declared.fault.PublishFault.TheVariants.{Busy, Exhausted, TooBig}

abbrev pub publish_code : PublishFault → Code
publish_code TooBig = plain (codes "B") 1
publish_code Busy = plain (codes "B") 2
publish_code Exhausted = plain (codes "B") 3
