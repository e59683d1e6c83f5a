use Rattle.filter_compile.proofs.sides.Passed.or_no.Goals as goal

pub returns-in-Some-clause-of_self : goal.returns-in-Some-clause-of_self
returns-in-Some-clause-of_self c = rw c.in-Some.is c.join.ensures.of_self
