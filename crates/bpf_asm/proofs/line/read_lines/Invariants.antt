use Rattle.std.proofs.Common.{◌≡◌, ◌+◌, ◌++◌, ◌≤◌, length, map}
use Rattle.bpf_asm.specs.Line.{lines_of}
use Rattle.bpf_asm.specs.body.Reading.{forms_fault, lines_read}
use Rattle.bpf_asm.specs.body.View.{left_len, line_of, lines_left}
use Rattle.bpf_asm.proofs.CodeLemmas.{lines_at}
use Rattle.bpf_asm.proofs.line.read_lines.Given as goal

abbrev pub invariant-loop-left : goal.invariant-loop-left
invariant-loop-left g l =
    (map line_of l.lines.items ++ lines_at l.left ≡ lines_read l.fn.text)
    × (forms_fault l.number (lines_left l.left) ≡ forms_fault 1 (lines_of l.fn.text))
    × (l.number + left_len l.left ≤ length l.fn.text + 2)

abbrev pub decreases-loop-left : goal.decreases-loop-left
decreases-loop-left g l = left_len l.left
