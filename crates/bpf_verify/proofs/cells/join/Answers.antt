use Rattle.std.proofs.Common.{rules}
use Rattle.bpf_verify.proofs.cells.join.Goals as goal

pub returns : goal.returns
returns c = search rules
