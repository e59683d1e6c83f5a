use Rattle.std.proofs.Common.{◌/◌}
use Rattle.std.proofs.lemmas.Bool.{eqb-true}
use Rattle.bpf_verify.proofs.JumpLemmas.{return-read}
use Rattle.bpf_verify.proofs.operands.returns_constant.Goals as goal

pub returns : goal.returns
returns c = λ test. return-read c.args.word (eqb-true (c.args.word / 4294967296) 393216 test)
