use Rattle.serve_stream.proofs.CutLemmas.{no_request, one_cutting}
use Rattle.serve_stream.proofs.one_cutting.Goals as goal

pub returns-clause-one_cutting : goal.returns-clause-one_cutting
returns-clause-one_cutting c = one_cutting

pub returns-clause-no_request : goal.returns-clause-no_request
returns-clause-no_request c = no_request
