use Rattle.std.proofs.Common.{rules, subst, sym}
use Rattle.std.specs.Prelude.{IfErr}
use Rattle.command_query.proofs.StopLemmas.{assembly_stops, stopped_as}
use Rattle.command_query.specs.body.Stop.{IsStopByProgram}
use Rattle.command_query.specs.declared.format.InputFormat.TheVariants as input
use Rattle.command_query.proofs.program_commands.read_program.Goals as goal

pub returns-in_err-assembled-in-Assembly-clause-stopped : goal.returns-in_err-assembled-in-Assembly-clause-stopped
returns-in_err-assembled-in-Assembly-clause-stopped c =
    subst (λ format. IfErr c.from_residual.result (IsStopByProgram format c.args.text.now)) (sym c.in-Assembly.is)
    (stopped_as c.from_residual.result (IsStopByProgram input.Assembly c.args.text.now) _ c.from_residual.ensures.1
    (assembly_stops c.args.text.now _ c.in_err-assembled-in-Assembly.ensures.fault))

pub returns-in_ok-assembled-in-Assembly-clause-program : goal.returns-in_ok-assembled-in-Assembly-clause-program
returns-in_ok-assembled-in-Assembly-clause-program c = search rules

pub returns-in_ok-assembled-in-Assembly-clause-stopped : goal.returns-in_ok-assembled-in-Assembly-clause-stopped
returns-in_ok-assembled-in-Assembly-clause-stopped c = search rules

pub returns-in_ok-read_ddd-in-Ddd-clause-program : goal.returns-in_ok-read_ddd-in-Ddd-clause-program
returns-in_ok-read_ddd-in-Ddd-clause-program c = search rules

pub returns-in_ok-read_ddd-in-Ddd-clause-stopped : goal.returns-in_ok-read_ddd-in-Ddd-clause-stopped
returns-in_ok-read_ddd-in-Ddd-clause-stopped c = search rules

pub returns-in_ok-read_hex-in-Hex-clause-program : goal.returns-in_ok-read_hex-in-Hex-clause-program
returns-in_ok-read_hex-in-Hex-clause-program c = search rules

pub returns-in_ok-read_hex-in-Hex-clause-stopped : goal.returns-in_ok-read_hex-in-Hex-clause-stopped
returns-in_ok-read_hex-in-Hex-clause-stopped c = search rules
