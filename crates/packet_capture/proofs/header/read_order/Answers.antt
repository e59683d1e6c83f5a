use Rattle.std.proofs.Common.{rules}
use Rattle.packet_capture.proofs.header.read_order.Goals as goal

pub returns-then-bytes-lt4-clause-order : goal.returns-then-bytes-lt4-clause-order
returns-then-bytes-lt4-clause-order c = search rules

pub returns-then-bytes-lt4-clause-fault : goal.returns-then-bytes-lt4-clause-fault
returns-then-bytes-lt4-clause-fault c = search rules

pub returns-in-2712847316-clause-order : goal.returns-in-2712847316-clause-order
returns-in-2712847316-clause-order c = search rules

pub returns-in-2712847316-clause-fault : goal.returns-in-2712847316-clause-fault
returns-in-2712847316-clause-fault c = search rules

pub returns-in-3569595041-clause-order : goal.returns-in-3569595041-clause-order
returns-in-3569595041-clause-order c = search rules

pub returns-in-3569595041-clause-fault : goal.returns-in-3569595041-clause-fault
returns-in-3569595041-clause-fault c = search rules

pub returns-in-168627466-clause-order : goal.returns-in-168627466-clause-order
returns-in-168627466-clause-order c = search rules

pub returns-in-168627466-clause-fault : goal.returns-in-168627466-clause-fault
returns-in-168627466-clause-fault c = search rules

pub returns-in_default-clause-order : goal.returns-in_default-clause-order
returns-in_default-clause-order c = search rules

pub returns-in_default-clause-fault : goal.returns-in_default-clause-fault
returns-in_default-clause-fault c = search rules
