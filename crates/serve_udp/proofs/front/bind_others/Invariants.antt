use Rattle.std.proofs.Common.{◌≡◌, vec_len}
use Rattle.serve_udp.proofs.front.bind_others.Given as goal

abbrev pub invariant-loop-worker : goal.invariant-loop-worker
invariant-loop-worker l = vec_len l.fronts ≡ l._worker
