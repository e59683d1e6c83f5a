use Rattle.control.proofs.HeldLemmas.{at_end}
use Rattle.control.proofs.held.Held.end_script.Goals as goal

pub returns : goal.returns
returns c = at_end c.args.self.now c.drop_lf.new.text.items c.drop_lf.ensures
