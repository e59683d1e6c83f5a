use Rattle.std.proofs.Common.{◌≡◌, ◌+◌, ◌*◌, drop}
use Rattle.config_image.specs.declared.TheConstants.{PAGE_WORDS}
use Rattle.config_image.proofs.EntryLemmas.{entries_from}
use Rattle.config_image.proofs.WritingLemmas.{IsWriting}
use Rattle.config_image.proofs.pooled.write_program_entries.Given as goal

abbrev pub invariant-loop-page : goal.invariant-loop-page
invariant-loop-page g l =
    IsWriting (g.S.WordSink.taken l.fn.sink) (g.S.WordSink.room l.fn.sink) (g.S.WordSink.taken l.sink) (g.S.WordSink.room l.sink)
    (entries_from l.part_at (drop l.page-index l.own)) (entries_from l.place l.own)
    × (l.part_at ≡ l.place + l.page-index * PAGE_WORDS)
