use Rattle.std.proofs.Common.{rules}
use Rattle.versions.proofs.book.Book.least_from.Goals as goal

pub returns : goal.returns
returns g c = search rules

pub returns-then-self-free : goal.returns-then-self-free
returns-then-self-free g c = search rules
