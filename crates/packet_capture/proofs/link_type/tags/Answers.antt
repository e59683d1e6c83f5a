use Rattle.std.proofs.Common.{rules}
use Rattle.packet_capture.proofs.link_type.tags.Goals as goal

pub returns-in-true-true-clause-tags : goal.returns-in-true-true-clause-tags
returns-in-true-true-clause-tags c = search rules

pub returns-in-true-true-clause-most : goal.returns-in-true-true-clause-most
returns-in-true-true-clause-most c = search rules

pub returns-in-true-false-clause-tags : goal.returns-in-true-false-clause-tags
returns-in-true-false-clause-tags c = search rules

pub returns-in-true-false-clause-most : goal.returns-in-true-false-clause-most
returns-in-true-false-clause-most c = search rules

pub returns-in-false-default-clause-tags : goal.returns-in-false-default-clause-tags
returns-in-false-default-clause-tags c = search rules

pub returns-in-false-default-clause-most : goal.returns-in-false-default-clause-most
returns-in-false-default-clause-most c = search rules
