use Rattle.std.proofs.Common.{ap, rules}
use Rattle.command_operating.proofs.TellingLemmas.{input_fails_as, lines_borrow, unread_fails}
use Rattle.command_operating.proofs.telling.tell_words_or_input.Goals as goal

pub returns-then-not-is_empty-clause-input_failed : goal.returns-then-not-is_empty-clause-input_failed
returns-then-not-is_empty-clause-input_failed g c = unread_fails c.tell_words.result _ c.tell_words.ensures.never_unread

pub returns-clause-input_failed : goal.returns-clause-input_failed
returns-clause-input_failed g c =
    let kept = lines_borrow c.tell_lines-told.result _ _ c.tell_lines-told.ensures.input_failed in
    input_fails_as c.tell_lines-told.result _ _ c.new-lines.result.failures c.tell_lines-told.new.lines.failures
    (ap (λ v. v.failures.count) c.new-lines.ensures.lines) (search (rules, kept)) c.tell_lines-told.ensures.input_failed
