use Rattle.std.proofs.Common.{rules}
use Rattle.bpf_machine.proofs.arithmetic.compute.Goals as goal

pub returns-in-Add : goal.returns-in-Add
returns-in-Add c = search rules

pub returns-in-Sub : goal.returns-in-Sub
returns-in-Sub c = search rules

pub returns-in-Mul : goal.returns-in-Mul
returns-in-Mul c = search rules

pub returns-in-Div : goal.returns-in-Div
returns-in-Div c = search rules

pub returns-in-Or : goal.returns-in-Or
returns-in-Or c = search rules

pub returns-in-And : goal.returns-in-And
returns-in-And c = search rules

pub returns-in-Lsh : goal.returns-in-Lsh
returns-in-Lsh c = search rules

pub returns-in-Rsh : goal.returns-in-Rsh
returns-in-Rsh c = search rules

pub returns-in-Mod : goal.returns-in-Mod
returns-in-Mod c = search rules

pub returns-in-Xor : goal.returns-in-Xor
returns-in-Xor c = search rules
