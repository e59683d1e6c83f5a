use Rattle.std.proofs.Common.{arith, rules}
use Rattle.std.proofs.lemmas.Grind.{common_steps}
use Rattle.control_line.proofs.PacketLemmas.{too_much}
use Rattle.control_line.proofs.packet.read_packet.Goals as goal

pub returns-then-len-gt-MAX_PACKET : goal.returns-then-len-gt-MAX_PACKET
returns-then-len-gt-MAX_PACKET c = record { packet = too_much _ _ (c.read_pairs.ensures.packet (search rules)) (omega (arith, c.if-len-gt-MAX_PACKET.true)) }

pub returns : goal.returns
returns c = grind (arith, common_steps)

pub returns-then-digits-ne0 : goal.returns-then-digits-ne0
returns-then-digits-ne0 c = search rules

pub returns-then-not-read_pairs : goal.returns-then-not-read_pairs
returns-then-not-read_pairs c = search rules
