use Rattle.serve_control.proofs.MembersLemmas.{no_group, no_key, no_number}
use Rattle.serve_control.proofs.members.read_names.Goals as goal

pub returns-in_err-group : goal.returns-in_err-group
returns-in_err-group c = rw c.from_residual.ensures (no_key c.args.names.now c.in_default.ensures c.in_err-group.ensures)

pub returns-in_err-group-2 : goal.returns-in_err-group-2
returns-in_err-group-2 c =
    rw c.from_residual-in_err-group-2.ensures (no_group c.args.names.now c.in-Some.key.now c.in-Some.id.now c.in-Some.ensures c.in_err-group-2.ensures)

pub returns-in_err-id : goal.returns-in_err-id
returns-in_err-id c =
    rw c.from_residual-in_err-id.ensures (no_number c.args.names.now c.in-Some.key.now c.in-Some.id.now c.in-Some.ensures c.in_err-id.ensures)
