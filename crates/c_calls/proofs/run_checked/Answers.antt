use Rattle.std.proofs.Common.{◌≤◌, arith, length}
use Rattle.c_calls.proofs.AnswerLemmas.{not_run}
use Rattle.c_calls.proofs.run_checked.Goals as goal

pub returns-else-answer-eq0-clause-answer : goal.returns-else-answer-eq0-clause-answer
returns-else-answer-eq0-clause-answer c =
    let short : length c.args.packet.now ≤ 65535 = let l = c.if-packet-gt-MAX_PACKET.false in omega arith in
    not_run c.args.words.now c.args.packet.now c.args.outcome.now c.verify_words-answer.result short c.if-answer-eq0.false c.verify_words-answer.ensures.answer
