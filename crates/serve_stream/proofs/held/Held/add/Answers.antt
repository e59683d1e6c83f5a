use Rattle.serve_stream.proofs.HeldLemmas.{added}
use Rattle.serve_stream.proofs.held.Held.add.Goals as goal

pub returns : goal.returns
returns c = added c.args.bytes.now c.args.self.now c.push.new.self c.push.result c.requires c.push.ensures
