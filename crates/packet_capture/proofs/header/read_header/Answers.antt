use Rattle.std.proofs.Common.{rules}
use Rattle.packet_capture.proofs.header.read_header.Goals as goal

pub returns-then-bytes-lt-FILE_HEADER-clause-header : goal.returns-then-bytes-lt-FILE_HEADER-clause-header
returns-then-bytes-lt-FILE_HEADER-clause-header c = search rules

pub returns-then-bytes-lt-FILE_HEADER-clause-fault : goal.returns-then-bytes-lt-FILE_HEADER-clause-fault
returns-then-bytes-lt-FILE_HEADER-clause-fault c = search rules

pub returns-then-half_at-ne2-clause-header : goal.returns-then-half_at-ne2-clause-header
returns-then-half_at-ne2-clause-header c = search rules

pub returns-then-half_at-ne2-clause-fault : goal.returns-then-half_at-ne2-clause-fault
returns-then-half_at-ne2-clause-fault c = search rules

pub returns-in-Some-clause-header : goal.returns-in-Some-clause-header
returns-in-Some-clause-header c = search rules

pub returns-in-Some-clause-fault : goal.returns-in-Some-clause-fault
returns-in-Some-clause-fault c = search rules

pub returns-in-None-clause-header : goal.returns-in-None-clause-header
returns-in-None-clause-header c = search rules

pub returns-in-None-clause-fault : goal.returns-in-None-clause-fault
returns-in-None-clause-fault c = search rules
