use Rattle.std.proofs.Common.{arith, rules}
use Rattle.config_image.proofs.ReadsLemmas.{reads_at_most, reads_least}
use Rattle.config_image.proofs.pages.search.Search.new.Goals as goal

pub returns-clause-few_reads : goal.returns-clause-few_reads
returns-clause-few_reads c n below = reads_least _ n (omega arith)

pub returns-clause-at_most : goal.returns-clause-at_most
returns-clause-at_most c = reads_at_most _

pub returns-clause-all_open : goal.returns-clause-all_open
returns-clause-all_open c = search rules
