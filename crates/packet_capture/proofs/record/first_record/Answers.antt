use Rattle.std.proofs.Common.{arith, rules}
use Rattle.std.proofs.lemmas.Grind.{common_steps}
use Rattle.packet_capture.proofs.record.first_record.Goals as goal

pub returns-then-bytes-lt-RECORD_HEADER : goal.returns-then-bytes-lt-RECORD_HEADER
returns-then-bytes-lt-RECORD_HEADER c = search rules

pub returns-then-behind-captured : goal.returns-then-behind-captured
returns-then-behind-captured c = grind (arith, common_steps)

pub returns : goal.returns
returns c = grind (arith, common_steps)
