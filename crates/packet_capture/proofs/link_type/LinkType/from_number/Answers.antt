use Rattle.std.proofs.Common.{rules}
use Rattle.packet_capture.proofs.link_type.LinkType.from_number.Goals as goal

pub returns-in-0 : goal.returns-in-0
returns-in-0 c = search rules

pub returns-in-1 : goal.returns-in-1
returns-in-1 c = search rules

pub returns-in-12 : goal.returns-in-12
returns-in-12 c = search rules

pub returns-in-108 : goal.returns-in-108
returns-in-108 c = search rules

pub returns-in-113 : goal.returns-in-113
returns-in-113 c = search rules

pub returns-in-276 : goal.returns-in-276
returns-in-276 c = search rules

pub returns-in_default : goal.returns-in_default
returns-in_default c = search rules
