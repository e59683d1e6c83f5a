use Rattle.std.proofs.Common.{rules}
use Rattle.ipv4_fields.proofs.endpoint.Endpoint.number.Goals as goal

pub returns : goal.returns
returns c = search rules
