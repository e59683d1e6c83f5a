use Rattle.filter_parse.proofs.FaultlessLemmas.{read-back}
use Rattle.filter_parse.proofs.reads_back.Goals as goal

pub returns : goal.returns
returns c = record { reads_back = read-back }
