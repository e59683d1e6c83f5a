use Rattle.packet_capture.proofs.ContentLemmas.{holds_one}
use Rattle.packet_capture.proofs.content.one_content.Goals as goal

pub returns : goal.returns
returns c = holds_one c.args.link_type c.args.order c.args.captured.now
