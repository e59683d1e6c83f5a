use Rattle.control.proofs.HeldLemmas.{added}
use Rattle.control.proofs.held.Held.add.Goals as goal

pub returns : goal.returns
returns c = added c.args.bytes.now c.args.self.now c.push.new.self c.push.result c.requires c.push.ensures.held c.push.ensures.due
