use Rattle.std.proofs.Common.{rules}
use Rattle.packet_capture.proofs.packet_lines.write_packet.Goals as goal

pub returns-clause-failed : goal.returns-clause-failed
returns-clause-failed g c = search rules

pub returns-clause-no_memory : goal.returns-clause-no_memory
returns-clause-no_memory g c = search rules

pub returns-clause-written : goal.returns-clause-written
returns-clause-written g c = search rules
