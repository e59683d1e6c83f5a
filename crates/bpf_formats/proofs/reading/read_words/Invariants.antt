use Rattle.std.proofs.Common.{◌+◌, ◌≤◌}
use Rattle.bpf_formats.specs.body.View.{Spells, items_left, left_len}
use Rattle.bpf_formats.proofs.ItemLemmas.{Continues}
use Rattle.bpf_formats.proofs.reading.read_words.Given as goal

abbrev pub invariant-loop-left : goal.invariant-loop-left
invariant-loop-left g l =
    Continues (Spells l.form) (items_left l.fn.text) l.fn.first (items_left l.left) l.n l.words.items
    × (l.n + left_len l.left ≤ l.fn.first + left_len l.fn.text)

abbrev pub decreases-loop-left : goal.decreases-loop-left
decreases-loop-left g l = left_len l.left
