use Rattle.control_line.proofs.ReadingLemmas.{none_keyed_members, none_of_members, none_placed_members}
use Rattle.control_line.proofs.request.read_member.Goals as goal

pub returns-in_err-key : goal.returns-in_err-key
returns-in_err-key c = rw c.from_residual.ensures (none_of_members c.args.fields.now c.in_err-key.ensures)

pub returns-in_err-key-2 : goal.returns-in_err-key-2
returns-in_err-key-2 c =
    rw c.from_residual-in_err-key-2.ensures (none_keyed_members c.args.fields.now c.in_ok-key.key.now c.in_ok-key.index.now c.in_ok-key.ensures c.in_err-key-2.ensures)

pub returns-in_err-index : goal.returns-in_err-index
returns-in_err-index c =
    rw c.from_residual-in_err-index.ensures (none_placed_members c.args.fields.now c.in_ok-key.key.now c.in_ok-key.index.now c.in_ok-key.ensures c.in_err-index.ensures)
