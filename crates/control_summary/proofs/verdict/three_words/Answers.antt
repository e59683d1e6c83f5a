use Rattle.std.proofs.Common.{sym}
use Rattle.control_summary.proofs.WordLemmas.{no_second_word, no_third_word, three_taken}
use Rattle.control_summary.proofs.verdict.three_words.Goals as goal

pub returns-in_err-name : goal.returns-in_err-name
returns-in_err-name c = rw c.from_residual.ensures (sym (no_second_word c.args.bytes.now c.in_err-name.ensures))

pub returns-in_err-key : goal.returns-in_err-key
returns-in_err-key c =
    rw c.from_residual-in_err-key.ensures (sym (no_third_word c.args.bytes.now c.in_ok-name.name.now c.in_ok-name.behind.now c.in_ok-name.ensures c.in_err-key.ensures))

pub returns : goal.returns
returns c =
    three_taken c.args.bytes.now c.in_ok-name.name.now c.in_ok-name.behind.now c.in_ok-key.key.now c.in_ok-key.behind.now c.first_word-id.result.now
    c.in_ok-name.ensures c.in_ok-key.ensures c.first_word-id.ensures
