use Rattle.control_line.proofs.ColumnLemmas.{text_of_command}
use Rattle.member_group.specs.Over.{command_over}
use Rattle.control_line.specs.body.Reading.{source_of}
use Rattle.control_line.proofs.column.text_in.Goals as goal

pub returns-in-Some : goal.returns-in-Some
returns-in-Some c =
    text_of_command (λ text. text.now) c.args.line.now (command_over source_of c.in-Some.command) c.program_text.result c.in-Some.ensures c.program_text.ensures

pub returns-in-None : goal.returns-in-None
returns-in-None c = λ text has. c.in-None.ensures has.command has.spells
