-- A command's line in two parts: before its program, and the program.
use Rattle.std.specs.Prelude.{◌++◌, ◌∷◌, List, None, Option, Some, [], codes, ℕ}
use Rattle.std.specs.Borrow.{Bor}
use Rattle.bpf_verify.specs.Program.{ProgramValue}
use Rattle.ipv4_fields.specs.Endpoint.{endpoint_text}
use Rattle.member_group.specs.Over.{command_over}
use Rattle.member_group.specs.declared.command.Command.{Command}
use Rattle.member_group.specs.declared.command.Command.TheVariants.{AddGroup, ClearFilter, ClearSelector, Join, Leave, LockFilter, RemoveGroup, SetFilter, SetSelector}
use Rattle.control_rules.specs.Text.{change_text, keyed, numbered}

abbrev pub start_text : {P : Type 0} → Command P → List ℕ
start_text (AddGroup key) = keyed (codes "add") key
start_text (RemoveGroup key) = keyed (codes "remove") key
start_text (Join key id to) = numbered (codes "join") key id ++ (codes " " ++ endpoint_text to)
start_text (Leave key id) = numbered (codes "leave") key id
start_text (SetSelector key program) = keyed (codes "selector") key ++ codes " asm "
start_text (ClearSelector key) = keyed (codes "selector") key ++ codes " none"
start_text (SetFilter key id program) = numbered (codes "filter") key id ++ codes " asm "
start_text (ClearFilter key id) = numbered (codes "filter") key id ++ codes " none"
start_text (LockFilter key id) = numbered (codes "lock") key id

abbrev pub program_in : {P : Type 0} → Command P → Option P
program_in (SetSelector key program) = Some program
program_in (SetFilter key id program) = Some program
program_in _ = None

-- the line of a command that lends its program
abbrev pub line_of : Command (Bor ProgramValue) → List ℕ
line_of command = change_text (command_over (λ program. program.now.words) command) ++ 10 ∷ []
