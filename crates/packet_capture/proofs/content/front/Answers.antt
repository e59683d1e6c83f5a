use Rattle.std.proofs.Common.{◌≤◌, arith, length, rules}
use Rattle.packet_capture.specs.Packet.{IsIpv4SoFar}
use Rattle.packet_capture.proofs.ContentLemmas.{BeginsWithPacket-take}
use Rattle.packet_capture.proofs.content.front.Goals as goal

pub returns-in-Some : goal.returns-in-Some
returns-in-Some c =
    let is_ipv4 : IsIpv4SoFar c.args.bytes.now = search rules in
    let inside : c.in-Some.total ≤ length c.args.bytes.now = omega arith in
    BeginsWithPacket-take c.args.bytes.now c.in-Some.total is_ipv4 (search rules) inside

pub returns-then-not-is_ipv4_so_far : goal.returns-then-not-is_ipv4_so_far
returns-then-not-is_ipv4_so_far c = search rules

pub returns-in_default : goal.returns-in_default
returns-in_default c = search rules
