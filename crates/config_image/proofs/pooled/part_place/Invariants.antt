use Rattle.std.proofs.Common.{◌≡◌, ◌+◌, ◌<◌, length, take}
use Rattle.std.specs.List.{flat_map}
use Rattle.config_image.specs.Pooled.{parts_of}
use Rattle.config_image.proofs.PartsLemmas.{size_of}
use Rattle.config_image.proofs.pooled.part_place.Given as goal

abbrev pub invariant-loop-words : goal.invariant-loop-words
invariant-loop-words g l =
    (l.place + size_of (take l.left (flat_map parts_of l.words-iterator)) ≡ l.programs_at + size_of (take l.part (flat_map parts_of l.fn.programs)))
    × (l.left < length (flat_map parts_of l.words-iterator))
    × (l.place + size_of l.words-iterator ≡ l.programs_at + size_of l.fn.programs)
