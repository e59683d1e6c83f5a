use Rattle.std.proofs.Common.{rules}
use Rattle.control.proofs.packet_line.read_packet_into.Goals as goal

pub returns-in-Err : goal.returns-in-Err
returns-in-Err c = search rules

pub returns-in-Err-PacketTooLong : goal.returns-in-Err-PacketTooLong
returns-in-Err-PacketTooLong c = search rules

pub returns-in-Ok : goal.returns-in-Ok
returns-in-Ok c = search rules

pub returns-in_default : goal.returns-in_default
returns-in_default c = search rules

pub returns-then-text-gt-LINE_LIMIT : goal.returns-then-text-gt-LINE_LIMIT
returns-then-text-gt-LINE_LIMIT c = search rules
