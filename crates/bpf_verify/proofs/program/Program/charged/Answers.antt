use Rattle.std.proofs.Common.{rules}
use Rattle.bpf_verify.proofs.program.Program.charged.Goals as goal

pub returns-clause-words_taken : goal.returns-clause-words_taken
returns-clause-words_taken g c = search rules

pub returns-clause-charge_taken : goal.returns-clause-charge_taken
returns-clause-charge_taken g c = search rules
