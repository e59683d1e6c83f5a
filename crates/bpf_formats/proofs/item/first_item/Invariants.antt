use Rattle.std.proofs.Common.{◌≡◌, drop, take}
use Rattle.bpf_formats.specs.Item.{items_of}
use Rattle.bpf_formats.proofs.CutLemmas.{with_fronts}
use Rattle.bpf_formats.proofs.item.first_item.Given as goal

abbrev pub invariant-loop-i : goal.invariant-loop-i
invariant-loop-i l = with_fronts (take l.i l.text) (items_of (drop l.i l.text)) ≡ items_of l.text
