use Rattle.std.proofs.Common.{rules}
use Rattle.serve_devices.proofs.received.Received.open.Goals as goal

pub returns-clause-copied : goal.returns-clause-copied
returns-clause-copied c = search rules

pub returns-clause-failed : goal.returns-clause-failed
returns-clause-failed c = search rules

pub returns-clause-size : goal.returns-clause-size
returns-clause-size c = search rules

pub returns-then-self-clause-copied : goal.returns-then-self-clause-copied
returns-then-self-clause-copied c = search rules

pub returns-then-self-clause-failed : goal.returns-then-self-clause-failed
returns-then-self-clause-failed c = search rules

pub returns-then-self-clause-size : goal.returns-then-self-clause-size
returns-then-self-clause-size c = search rules
