use Rattle.std.proofs.Common.{arith, refl, rules}
use Rattle.member_group.proofs.AnswerLemmas.{clear_filter_locked, clear_filter_refused, clear_filter_without, clears_filter, made_answer, memory_answer, refused_answer}
use Rattle.member_group.proofs.GroupLemmas.{with_filter_is_group}
use Rattle.member_group.proofs.group.Group.clear_filter.Goals as goal

pub place_of_member-requires : goal.place_of_member-requires
place_of_member-requires g c = record { distinct = rw c.members.ensures.members c.requires.group.distinct }

pub offset_bounds-members-at : goal.offset_bounds-members-at
offset_bounds-members-at g c =
    let only = rw c.members.ensures.members at c.in-Some.ensures.found in
    let inside = only.inside in
    rw c.members-2.ensures.members (omega arith)

pub bounds-members-at : goal.bounds-members-at
bounds-members-at g c =
    let only = rw c.members.ensures.members at c.in-Some.ensures.found in
    rw c.members-2.ensures.members only.inside

pub with_filter-requires : goal.with_filter-requires
with_filter-requires g c =
    let only = rw c.members.ensures.members at c.in-Some.ensures.found in
    record { few = c.requires.group.limited; inside = only.inside }

pub returns-in_default-clause-answer : goal.returns-in_default-clause-answer
returns-in_default-clause-answer g c =
    refused_answer _ _ _ (clear_filter_refused c.args.id c.args.self.now (rw (← c.members.ensures.members) c.in_default.ensures.absent))

pub returns-then-member-clause-answer : goal.returns-then-member-clause-answer
returns-then-member-clause-answer g c =
    refused_answer _ _ _
    (clear_filter_locked c.args.id c.args.self.now c.in-Some.at c.index-members-at.result (rw (← c.members.ensures.members) c.in-Some.ensures.found) (rw (← c.members-2.ensures.members) c.index-members-at.is) c.if-member.true)

pub returns-then-is_none-clause-answer : goal.returns-then-is_none-clause-answer
returns-then-is_none-clause-answer g c =
    refused_answer _ _ _
    (clear_filter_without c.args.id c.args.self.now c.in-Some.at c.index-members-at.result (rw (← c.members.ensures.members) c.in-Some.ensures.found) (rw (← c.members-2.ensures.members) c.index-members-at.is) (search rules) (rw c.if-is_none.ensures refl))

pub returns-in_err-with_filter-clause-answer : goal.returns-in_err-with_filter-clause-answer
returns-in_err-with_filter-clause-answer g c =
    memory_answer _ _ _
    (clears_filter c.args.id c.args.self.now c.in-Some.at c.index-members-at.result (rw (← c.members.ensures.members) c.in-Some.ensures.found) (rw (← c.members-2.ensures.members) c.index-members-at.is) c.if-member.false (rw c.if-is_none.ensures refl))
    c.from_residual.ensures.1

pub returns-clause-answer : goal.returns-clause-answer
returns-clause-answer g c =
    let only = rw c.members.ensures.members at c.in-Some.ensures.found in
    made_answer _ _ _
    (clears_filter c.args.id c.args.self.now c.in-Some.at c.index-members-at.result only (rw (← c.members-2.ensures.members) c.index-members-at.is) c.if-member.false (rw c.if-is_none.ensures refl))
    (c.in_ok-with_filter.ensures.changed c.args.id only)

pub returns-clause-group : goal.returns-clause-group
returns-clause-group g c =
    let only = rw c.members.ensures.members at c.in-Some.ensures.found in
    rw (c.in_ok-with_filter.ensures.changed c.args.id only) (with_filter_is_group c.args.id _ c.args.self.now c.in-Some.at c.requires.group only tt)

pub returns-in_default-clause-group : goal.returns-in_default-clause-group
returns-in_default-clause-group g c = search rules

pub returns-then-is_none-clause-group : goal.returns-then-is_none-clause-group
returns-then-is_none-clause-group g c = search rules

pub returns-then-member-clause-group : goal.returns-then-member-clause-group
returns-then-member-clause-group g c = search rules
