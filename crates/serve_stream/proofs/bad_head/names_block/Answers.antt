use Rattle.serve_stream.specs.Request.{after_version, at_front}
use Rattle.serve_stream.proofs.WordLemmas.{named_after, named_front}
use Rattle.serve_stream.proofs.bad_head.names_block.Goals as goal

pub returns-in-Some : goal.returns-in-Some
returns-in-Some c =
    let line = c.args.line.now in
    let rest = c.in-Some.rest.now in
    let word = c.first_word.result.now in
    let at = c.in-Some.ensures in (
      λ yes. after_version at.0 rest word at.1 at.2 c.first_word.ensures (c.is_start_word.ensures.0 yes),
      λ names. c.is_start_word.ensures.1 (named_after line at.0 rest word at.1 at.2 c.first_word.ensures names),
    )

pub returns-in-None : goal.returns-in-None
returns-in-None c =
    let line = c.args.line.now in
    let word = c.first_word-in-None.result.now in (
      λ yes. at_front word c.first_word-in-None.ensures (c.is_start_word-in-None.ensures.0 yes),
      λ names. c.is_start_word-in-None.ensures.1 (named_front line word c.in-None.ensures c.first_word-in-None.ensures names),
    )
