use Rattle.std.proofs.Common.{arith, rules}
use Rattle.config_image.proofs.ReadsLemmas.{reads_fall}
use Rattle.config_image.proofs.pages.search.Search.tell.Goals as goal

pub returns-then-entry-self-clause-fewer : goal.returns-then-entry-self-clause-fewer
returns-then-entry-self-clause-fewer c = reads_fall _ _ c.requires (omega arith)

pub returns-else-entry-self-clause-fewer : goal.returns-else-entry-self-clause-fewer
returns-else-entry-self-clause-fewer c = reads_fall _ _ c.requires (omega arith)

pub returns-else-entry-self-clause-told : goal.returns-else-entry-self-clause-told
returns-else-entry-self-clause-told c = search rules

pub returns-then-entry-self-clause-told : goal.returns-then-entry-self-clause-told
returns-then-entry-self-clause-told c = search rules
