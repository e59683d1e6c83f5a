use Rattle.std.proofs.Common.{rules}
use Rattle.serve_devices.proofs.received.Received.fill.Goals as goal

pub returns-clause-failed : goal.returns-clause-failed
returns-clause-failed c = search rules

pub returns-clause-filled : goal.returns-clause-filled
returns-clause-filled c = search rules
