use Rattle.std.proofs.Common.{◌≡◌, ◌<◌, drop, length}
use Rattle.std.specs.List.{slice_get}
use Rattle.config_image.specs.Image.{program_words}
use Rattle.config_image.proofs.word.program_word.Given as goal

abbrev pub invariant-loop-group : goal.invariant-loop-group
invariant-loop-group g l =
    (slice_get (program_words (drop l.group-index l.groups)) l.left ≡ slice_get (program_words l.groups) l.fn.word)
    × (l.left < length (program_words (drop l.group-index l.groups)))
