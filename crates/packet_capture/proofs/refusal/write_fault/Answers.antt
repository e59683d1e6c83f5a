use Rattle.std.proofs.Common.{arith}
use Rattle.std.proofs.lemmas.Grind.{common_steps}
use Rattle.packet_capture.proofs.refusal.write_fault.Goals as goal

pub returns-in-LinkType-clause-written : goal.returns-in-LinkType-clause-written
returns-in-LinkType-clause-written g c = grind (arith, common_steps)
