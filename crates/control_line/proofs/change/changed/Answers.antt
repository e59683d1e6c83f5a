use Rattle.std.proofs.Common.{◌≡◌, Err, rules}
use Rattle.control_line.specs.body.Reading.{source_of}
use Rattle.control_line.proofs.ChangeLemmas.{change_result, no_command}
use Rattle.control_line.proofs.change.changed.Goals as goal
use Rattle.member_group.specs.Over.{command_over}

pub returns-in_err-command : goal.returns-in_err-command
returns-in_err-command c =
    let same : c.from_residual.result ≡ Err c.in_err-command.field-0.0 = search rules in
    rw same (no_command (command_over source_of c.args.command) c.args.config.now c.in_err-command.field-0.0 c.in_err-command.ensures)

pub returns : goal.returns
returns c = change_result (command_over source_of c.args.command) c.args.config.now c.in_ok-command.command c.in_ok-command.ensures c.next_config.result c.next_config.ensures
