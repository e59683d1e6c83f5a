use Rattle.std.proofs.Common.{refl}
use Rattle.serve_udp.proofs.jobs.open_devices.Goals as goal

pub returns-clause-source : goal.returns-clause-source
returns-clause-source g c = refl
