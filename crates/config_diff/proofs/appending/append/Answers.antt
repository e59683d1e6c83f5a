use Rattle.config_diff.proofs.BodyLemmas.{more_of_push}
use Rattle.config_diff.proofs.appending.append.Goals as goal

pub returns : goal.returns
returns g c = record { appended = more_of_push _ _ _ c.in_ok-push.ensures.items }
