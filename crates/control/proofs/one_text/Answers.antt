use Rattle.control.proofs.OneTextLemmas.{one_text, one_text_by}
use Rattle.control.proofs.one_text.Goals as goal

pub returns-clause-texts : goal.returns-clause-texts
returns-clause-texts c = one_text c.one_reply.ensures.texts

pub returns-clause-compiled : goal.returns-clause-compiled
returns-clause-compiled c = one_text_by c.one_reply.ensures.compiled
