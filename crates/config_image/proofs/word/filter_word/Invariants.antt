use Rattle.std.proofs.Common.{◌≡◌, ◌<◌, drop, length}
use Rattle.std.specs.List.{slice_get}
use Rattle.config_image.specs.Image.{filter_words}
use Rattle.config_image.proofs.word.filter_word.Given as goal

abbrev pub invariant-loop-member : goal.invariant-loop-member
invariant-loop-member g l =
    (slice_get (filter_words (drop l.member-index l.members)) l.left ≡ slice_get (filter_words l.members) l.fn.word)
    × (l.left < length (filter_words (drop l.member-index l.members)))
