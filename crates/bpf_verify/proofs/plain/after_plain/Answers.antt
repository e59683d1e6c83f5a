use Rattle.std.proofs.Common.{arith, rules}
use Rattle.bpf_verify.proofs.PlainTableLemmas.{is_plain_by}
use Rattle.bpf_verify.proofs.plain.after_plain.Goals as goal

pub returns-then-found : goal.returns-then-found
returns-then-found c = is_plain_by c.args.word c.args.before _ c.plain_of-plain.ensures (omega arith) c.if-found.true

pub returns-else-word-code : goal.returns-else-word-code
returns-else-word-code c = search rules
