use Rattle.command_operating.proofs.TellingLemmas.{words_unread}
use Rattle.command_operating.proofs.telling.tell_words.Goals as goal

pub returns-then-not-is_one_line-clause-never_unread : goal.returns-then-not-is_one_line-clause-never_unread
returns-then-not-is_one_line-clause-never_unread g c = words_unread c.tell_lines.result _ c.tell_lines.ensures.input_failed

pub returns-clause-never_unread : goal.returns-clause-never_unread
returns-clause-never_unread g c = words_unread c.tell_lines-2.result _ c.tell_lines-2.ensures.input_failed
