use Rattle.std.proofs.Common.{drop}
use Rattle.config_image.proofs.WritingLemmas.{IsWriting}
use Rattle.config_image.proofs.writing.write_words.Given as goal

abbrev pub invariant-loop-word : goal.invariant-loop-word
invariant-loop-word g l =
    IsWriting (g.S.WordSink.taken l.fn.sink) (g.S.WordSink.room l.fn.sink) (g.S.WordSink.taken l.sink) (g.S.WordSink.room l.sink) (drop l.word-index l.words) l.words
