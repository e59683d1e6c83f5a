use Rattle.command_line.proofs.ShareLemmas.{is_shared}
use Rattle.command_line.proofs.shares.are_members.Goals as goal

pub returns-clause-members : goal.returns-clause-members
returns-clause-members c = is_shared c.args.shares.now c.can_share.result c.can_share.ensures
