use Rattle.control_line.proofs.LaneLemmas.{lanes_are_worths}
use Rattle.control_line.proofs.packet.worths_of.Goals as goal

pub returns : goal.returns
returns c = lanes_are_worths 16 c.args.bytes c.fits-bytes.0 c.fits-bytes.1
