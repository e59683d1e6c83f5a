use Rattle.command_replay.proofs.LinesLemmas.{lines_are_replies}
use Rattle.command_replay.proofs.KindLemmas.{changes_are_not_counted, malformations_are_counted, reads_are_not_counted, refusals_are_counted, shows_are_not_counted, sweeps_are_not_counted, verdicts_are_counted}
use Rattle.command_replay.proofs.replies_are_counted.Goals as goal

pub returns-clause-verdicts : goal.returns-clause-verdicts
returns-clause-verdicts c = verdicts_are_counted

pub returns-clause-malformations : goal.returns-clause-malformations
returns-clause-malformations c = malformations_are_counted

pub returns-clause-refusals : goal.returns-clause-refusals
returns-clause-refusals c = refusals_are_counted

pub returns-clause-changes : goal.returns-clause-changes
returns-clause-changes c = changes_are_not_counted

pub returns-clause-shows : goal.returns-clause-shows
returns-clause-shows c = shows_are_not_counted

pub returns-clause-reads : goal.returns-clause-reads
returns-clause-reads c = reads_are_not_counted

pub returns-clause-sweeps : goal.returns-clause-sweeps
returns-clause-sweeps c = sweeps_are_not_counted

pub returns-clause-lines : goal.returns-clause-lines
returns-clause-lines c = lines_are_replies
