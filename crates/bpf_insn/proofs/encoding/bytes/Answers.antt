use Rattle.std.proofs.Common.{rules}
use Rattle.bpf_insn.proofs.encoding.bytes.Goals as goal

pub returns-clause-bytes : goal.returns-clause-bytes
returns-clause-bytes c = search rules

pub returns-clause-read_back : goal.returns-clause-read_back
returns-clause-read_back c = search rules
