use Rattle.std.proofs.Common.{◌∷◌, [], codes, refl}
use Rattle.control_line.proofs.request.read_judge.Goals as goal

pub returns : goal.returns
returns c = (codes "judge" ∷ c.args.digits.now ∷ [], refl, refl)
