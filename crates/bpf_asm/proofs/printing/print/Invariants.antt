use Rattle.std.proofs.Common.{◌≡◌, string_bytes, take}
use Rattle.bpf_asm.specs.Text.{printed}
use Rattle.bpf_asm.proofs.printing.print.Given as goal

abbrev pub invariant-loop-word : goal.invariant-loop-word
invariant-loop-word g l = string_bytes l.text ≡ printed (take l.word-index l.word-items)
