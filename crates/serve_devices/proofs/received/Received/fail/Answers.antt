use Rattle.std.proofs.Common.{rules}
use Rattle.serve_devices.proofs.received.Received.fail.Goals as goal

pub returns : goal.returns
returns c = search rules
