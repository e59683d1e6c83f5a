use Rattle.control_summary.proofs.WordLemmas.{cut_word, whole_word}
use Rattle.control_summary.proofs.verdict.first_word.Goals as goal

pub returns-in-Some : goal.returns-in-Some
returns-in-Some c = cut_word c.args.bytes.now c.in-Some.first.now _ c.in-Some.ensures

pub returns-in-None : goal.returns-in-None
returns-in-None c = whole_word c.args.bytes.now c.in-None.ensures
