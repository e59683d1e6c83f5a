use Rattle.std.proofs.Common.{rules}
use Rattle.control.proofs.packet_line.read_packet_line.Goals as goal

pub returns-in-None : goal.returns-in-None
returns-in-None c = search rules

pub returns-in-Some-Whole : goal.returns-in-Some-Whole
returns-in-Some-Whole c = search rules

pub returns-in-Some-TooLong : goal.returns-in-Some-TooLong
returns-in-Some-TooLong c = search rules
