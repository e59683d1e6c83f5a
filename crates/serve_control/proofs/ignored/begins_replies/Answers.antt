use Rattle.std.proofs.Common.{◌≡◌}
use Rattle.serve_control.proofs.IgnoredLemmas.{begins_found, found_begins, is_reply_word}
use Rattle.serve_control.proofs.ignored.begins_replies.Goals as goal

pub returns : goal.returns
returns c =
    let same : c.contains.result ≡ is_reply_word c.args.word.now = c.contains.ensures.value in
    rw same (found_begins c.args.word.now, begins_found c.args.word.now)
