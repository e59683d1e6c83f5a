use Rattle.std.proofs.Common.{rules}
use Rattle.filter_tree.proofs.prefix.Prefix.new.Goals as goal

pub returns-else-length-le32-clause-parts : goal.returns-else-length-le32-clause-parts
returns-else-length-le32-clause-parts c = search rules

pub returns-else-length-le32-clause-prefix_exact : goal.returns-else-length-le32-clause-prefix_exact
returns-else-length-le32-clause-prefix_exact c = search rules

pub returns-then-from-length-eq0-clause-parts : goal.returns-then-from-length-eq0-clause-parts
returns-then-from-length-eq0-clause-parts c = search rules

pub returns-then-from-length-eq0-clause-prefix_exact : goal.returns-then-from-length-eq0-clause-prefix_exact
returns-then-from-length-eq0-clause-prefix_exact c = search rules
