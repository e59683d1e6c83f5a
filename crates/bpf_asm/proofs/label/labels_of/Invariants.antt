use Rattle.std.proofs.Common.{◌≡◌, ◌+◌, ◌≤◌, drop, map}
use Rattle.bpf_asm.specs.body.View.{line_of, place_among}
use Rattle.bpf_asm.proofs.LabelLemmas.{Tracks}
use Rattle.bpf_asm.proofs.label.labels_of.Given as goal

abbrev pub invariant-loop-line : goal.invariant-loop-line
invariant-loop-line g l =
    Tracks (place_among l.labels.places) (map line_of l.lines) (map line_of (drop l.line-index l.lines)) l.number l.place
    × (l.number ≡ l.line-index + 1)
    × (l.place ≤ l.line-index)
