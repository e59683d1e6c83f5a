use Rattle.std.proofs.Common.{rules}
use Rattle.bpf_verify.proofs.program.Program.clone_in.Goals as goal

pub returns-clause-same_program : goal.returns-clause-same_program
returns-clause-same_program g c = search rules

pub returns-clause-program : goal.returns-clause-program
returns-clause-program g c = search rules
