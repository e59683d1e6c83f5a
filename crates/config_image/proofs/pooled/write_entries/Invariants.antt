use Rattle.std.proofs.Common.{◌≡◌, ◌+◌, length}
use Rattle.std.specs.List.{flat_map}
use Rattle.config_image.specs.Pooled.{page_entries, parts_of}
use Rattle.config_image.proofs.PartsLemmas.{size_of}
use Rattle.config_image.proofs.WritingLemmas.{IsWriting}
use Rattle.config_image.proofs.pooled.write_entries.Given as goal

abbrev pub invariant-loop-words : goal.invariant-loop-words
invariant-loop-words g l =
    IsWriting (g.S.WordSink.taken l.fn.sink) (g.S.WordSink.room l.fn.sink) (g.S.WordSink.taken l.sink) (g.S.WordSink.room l.sink)
    (page_entries l.place (flat_map parts_of l.words-iterator) l.left) (page_entries l.programs_at (flat_map parts_of l.fn.programs) l.pages)
    × (length l.left ≡ length (flat_map parts_of l.words-iterator))
    × (l.place + size_of l.words-iterator ≡ l.programs_at + size_of l.fn.programs)
