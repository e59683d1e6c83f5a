use Rattle.std.proofs.Common.{rules}
use Rattle.packet_verdict.proofs.member.kept.Goals as goal

pub returns : goal.returns
returns c = search rules

pub returns-in-Some-eq0 : goal.returns-in-Some-eq0
returns-in-Some-eq0 c = search rules
