use Rattle.std.proofs.Common.{◌≡◌, ◌+◌, drop, map}
use Rattle.bpf_asm.specs.body.View.{line_of, place_among}
use Rattle.bpf_asm.proofs.CodeLemmas.{Emits}
use Rattle.bpf_asm.proofs.target.words_of.Given as goal

abbrev pub invariant-loop-line : goal.invariant-loop-line
invariant-loop-line g l =
    Emits (place_among l.labels.places) (map line_of l.lines) (map line_of (drop l.line-index l.lines)) l.number l.words.items
    × (l.number ≡ l.line-index + 1)
