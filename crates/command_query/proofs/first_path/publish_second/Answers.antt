use Rattle.command_line.proofs.AcceptedLemmas.{second_accepted}
use Rattle.command_query.proofs.first_path.publish_second.Goals as goal

pub configuration-requires : goal.configuration-requires
configuration-requires c = record { accepted = second_accepted }
