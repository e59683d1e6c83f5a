use Rattle.std.proofs.Common.{◌∙◌, refl, sym}
use Rattle.member_group.proofs.AnswerLemmas.{has_member, made_answer, memory_answer, no_member, not_ok, on_err, refused_answer}
use Rattle.member_group.proofs.GroupLemmas.{left-only_at, left_is_group}
use Rattle.member_group.proofs.group.Group.leave_in_place.Goals as goal

pub returns-in_default-clause-answer : goal.returns-in_default-clause-answer
returns-in_default-clause-answer g c =
    refused_answer _ _ _ (no_member c.args.id c.args.self.now (rw (← c.members.ensures.members) c.in_default.ensures.absent))

pub returns-in_err-remove_member-clause-answer : goal.returns-in_err-remove_member-clause-answer
returns-in_err-remove_member-clause-answer g c =
    memory_answer _ _ _ (has_member c.args.id c.args.self.now c.in-Some.at (rw (← c.members.ensures.members) c.in-Some.ensures.found)) c.from_residual.ensures.1

pub returns-clause-answer : goal.returns-clause-answer
returns-clause-answer g c =
    made_answer _ _ _ (has_member c.args.id c.args.self.now c.in-Some.at (rw (← c.members.ensures.members) c.in-Some.ensures.found)) refl

pub returns-clause-changed : goal.returns-clause-changed
returns-clause-changed g c =
    c.in_ok-remove_member.ensures.changed ∙ sym (left-only_at c.args.id c.args.self.now c.in-Some.at (rw (← c.members.ensures.members) c.in-Some.ensures.found))

pub returns-clause-group : goal.returns-clause-group
returns-clause-group g c =
    let only = rw c.members.ensures.members at c.in-Some.ensures.found in
    rw c.in_ok-remove_member.ensures.changed (left_is_group c.args.self.now c.in-Some.at c.requires.group only.inside)

pub place_of_member-requires : goal.place_of_member-requires
place_of_member-requires g c = record { distinct = rw c.members.ensures.members c.requires.group.distinct }

pub remove_member-requires : goal.remove_member-requires
remove_member-requires g c =
    let only = rw c.members.ensures.members at c.in-Some.ensures.found in
    record { group = c.requires.group; inside = only.inside }

pub returns-in_err-remove_member-clause-changed : goal.returns-in_err-remove_member-clause-changed
returns-in_err-remove_member-clause-changed g c = not_ok _ c.from_residual.result c.from_residual.ensures.0

pub returns-in_err-remove_member-clause-kept : goal.returns-in_err-remove_member-clause-kept
returns-in_err-remove_member-clause-kept g c = on_err c.from_residual.result c.in_err-remove_member.ensures.kept

pub returns-in_err-remove_member-clause-group : goal.returns-in_err-remove_member-clause-group
returns-in_err-remove_member-clause-group g c = rw c.in_err-remove_member.ensures.kept c.requires.group
