use Rattle.serve_stream.proofs.MoveLemmas.{all_answered}
use Rattle.serve_stream.proofs.all_answered.Goals as goal

pub returns : goal.returns
returns c = all_answered
