use Rattle.serve_stream.specs.Request.{followed}
use Rattle.serve_stream.proofs.bad_head.first_word.Goals as goal

pub returns-in-Some : goal.returns-in-Some
returns-in-Some c = let cut = c.in-Some.ensures in followed c.in-Some.field-0-1.now cut.lacks cut.whole
