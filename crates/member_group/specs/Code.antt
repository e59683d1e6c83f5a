-- The codes of faults (docs/COMMANDS.md, "Refusals").
use Rattle.std.specs.Prelude.{codes}
use Rattle.fault_code.specs.Code.{plain}
use Rattle.fault_code.specs.declared.Code.{Code}
use Rattle.member_group.specs.declared.refusal.Refusal.{Refusal}
use Rattle.member_group.specs.declared.refusal.Refusal.TheVariants.{GroupExists, GroupFull, Locked, MemberExists, NoGroup, NoMember, NoProgram, OutOfMemory, TooManyGroups}

abbrev pub command_code : Refusal → Code
command_code NoGroup = plain (codes "G") 1
command_code GroupExists = plain (codes "G") 2
command_code NoMember = plain (codes "G") 3
command_code MemberExists = plain (codes "G") 4
command_code TooManyGroups = plain (codes "G") 5
command_code GroupFull = plain (codes "G") 6
command_code NoProgram = plain (codes "G") 7
command_code OutOfMemory = plain (codes "G") 8
command_code Locked = plain (codes "G") 9
