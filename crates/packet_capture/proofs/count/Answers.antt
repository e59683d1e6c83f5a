use Rattle.std.proofs.Common.{rules}
use Rattle.packet_capture.proofs.count.Goals as goal

pub returns-in-Cut : goal.returns-in-Cut
returns-in-Cut c = search rules

pub returns-in-Other : goal.returns-in-Other
returns-in-Other c = search rules
