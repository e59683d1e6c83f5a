use Rattle.std.proofs.Common.{◌≡◌, Err, rules}
use Rattle.control_line.specs.body.Reading.{source_of}
use Rattle.control_line.proofs.ChangeLemmas.{done_result, no_command}
use Rattle.control_line.proofs.change.do_change.Goals as goal
use Rattle.member_group.specs.Over.{command_over}

pub returns-in_err-made : goal.returns-in_err-made
returns-in_err-made c =
    let same : c.from_residual.result ≡ Err c.in_err-made.field-0.0 = search rules in
    rw same (no_command (command_over source_of c.args.command) c.args.config.now c.in_err-made.field-0.0 c.in_err-made.ensures)

pub returns : goal.returns
returns c =
    done_result (command_over source_of c.args.command) c.args.config.now c.in_ok-made.made c.in_ok-made.ensures c.do_command.new.config c.do_command.result c.do_command.ensures
