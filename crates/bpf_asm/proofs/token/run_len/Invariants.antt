use Rattle.std.proofs.Common.{◌≡◌, drop, ◌+◌}
use Rattle.std.specs.List.{prefix_len}
use Rattle.bpf_asm.specs.body.View.{is_of}
use Rattle.bpf_asm.proofs.token.run_len.Given as goal

abbrev pub invariant-loop-i : goal.invariant-loop-i
invariant-loop-i l = l.i + prefix_len (is_of l.kind) (drop l.i l.text) ≡ prefix_len (is_of l.kind) l.text
