use Rattle.std.proofs.Common.{◌≡◌, ◌<◌, length}
use Rattle.bpf_verify.specs.Path.{program_at}
use Rattle.bpf_verify.specs.body.Pass.{joined}
use Rattle.bpf_verify.proofs.PassLemmas.{IsPassed}
use Rattle.bpf_verify.proofs.check_places.Given as goal

abbrev pub invariant-loop-pc : goal.invariant-loop-pc
invariant-loop-pc g l =
    (g.W.Words.words l.words ≡ g.W.Words.words l.fn.words)
    × (g.W.Words.rest l.words ≡ g.W.Words.rest l.fn.words)
    × (l.len < length l.stored)
    × IsPassed (program_at (g.W.Words.words l.fn.words) l.from l.len) l.pc (joined l.carried l.stored l.pc) l.unstored l.returns
