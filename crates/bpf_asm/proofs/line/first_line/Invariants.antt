use Rattle.std.proofs.Common.{◌≡◌, drop, take}
use Rattle.bpf_asm.specs.Line.{lines_of}
use Rattle.bpf_asm.proofs.CutLemmas.{with_fronts}
use Rattle.bpf_asm.proofs.line.first_line.Given as goal

abbrev pub invariant-loop-i : goal.invariant-loop-i
invariant-loop-i l = with_fronts (take l.i l.text) (lines_of (drop l.i l.text)) ≡ lines_of l.text
