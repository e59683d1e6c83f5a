use Rattle.std.proofs.Common.{arith, rules}
use Rattle.std.proofs.lemmas.Grind.{common_steps}
use Rattle.bpf_asm.proofs.line.push_line.Goals as goal

pub returns-in_default-mnemonic : goal.returns-in_default-mnemonic
returns-in_default-mnemonic g c = (search rules, grind (arith, common_steps))

pub returns : goal.returns
returns g c = (search rules, grind (arith, common_steps))
