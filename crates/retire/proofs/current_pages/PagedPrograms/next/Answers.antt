use Rattle.std.proofs.Common.{arith, rules}
use Rattle.retire.proofs.SharingLemmas.{first_of}
use Rattle.retire.proofs.current_pages.PagedPrograms.next.Goals as goal

pub split_at-requires : goal.split_at-requires
split_at-requires c = let fits = first_of c.args.self.now.programs c.args.self.now.pages.now c.in-Some.words.now c.next.new.self c.in-Some.ensures.steps c.requires.counted in omega (arith, c.pages_for.ensures)

pub returns-clause-none : goal.returns-clause-none
returns-clause-none c = search rules

pub returns-clause-some : goal.returns-clause-some
returns-clause-some c = search rules

pub returns-in_default-clause-none : goal.returns-in_default-clause-none
returns-in_default-clause-none c = search rules

pub returns-in_default-clause-some : goal.returns-in_default-clause-some
returns-in_default-clause-some c = search rules
