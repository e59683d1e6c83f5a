use Rattle.std.proofs.Common.{arith, refl}
use Rattle.member_group.proofs.AnswerLemmas.{join_full, join_refused, joins, made_answer, memory_answer, not_ok, on_err, refused_answer}
use Rattle.member_group.proofs.GroupLemmas.{joined_is_group}
use Rattle.member_group.proofs.group.Group.join_in_place.Goals as goal

pub returns-in-Some-clause-answer : goal.returns-in-Some-clause-answer
returns-in-Some-clause-answer g c =
    refused_answer _ _ _ (join_refused c.args.id c.args.self.now c.in-Some._taken (rw (← c.members.ensures.members) c.in-Some.ensures.found))

pub returns-then-members-ge-MEMBER_LIMIT-clause-answer : goal.returns-then-members-ge-MEMBER_LIMIT-clause-answer
returns-then-members-ge-MEMBER_LIMIT-clause-answer g c =
    refused_answer _ _ _ (join_full c.args.id c.args.self.now (rw (← c.members.ensures.members) c.in_default.ensures.absent) (rw (← c.members-2.ensures.members) c.if-members-ge-MEMBER_LIMIT.true))

pub returns-in_err-add_member-clause-answer : goal.returns-in_err-add_member-clause-answer
returns-in_err-add_member-clause-answer g c =
    memory_answer _ _ _ (joins c.args.id c.args.self.now (rw (← c.members.ensures.members) c.in_default.ensures.absent) (rw (← c.members-2.ensures.members) c.if-members-ge-MEMBER_LIMIT.false)) c.from_residual.ensures.1

pub returns-clause-answer : goal.returns-clause-answer
returns-clause-answer g c =
    made_answer _ _ _ (joins c.args.id c.args.self.now (rw (← c.members.ensures.members) c.in_default.ensures.absent) (rw (← c.members-2.ensures.members) c.if-members-ge-MEMBER_LIMIT.false)) refl

pub returns-clause-group : goal.returns-clause-group
returns-clause-group g c =
    rw c.in_ok-add_member.ensures.changed
    (joined_is_group c.args.id c.args.to c.args.self.now (omega arith) (record { address = omega arith; port = omega arith }) c.requires.group (rw (← c.members.ensures.members) c.in_default.ensures.absent) (rw (← c.members-2.ensures.members) c.if-members-ge-MEMBER_LIMIT.false))

pub place_of_member-requires : goal.place_of_member-requires
place_of_member-requires g c = record { distinct = rw c.members.ensures.members c.requires.group.distinct }

pub add_member-requires : goal.add_member-requires
add_member-requires g c = record { group = c.requires.group; room = rw (← c.members-2.ensures.members) c.if-members-ge-MEMBER_LIMIT.false }

pub returns-in_err-add_member-clause-changed : goal.returns-in_err-add_member-clause-changed
returns-in_err-add_member-clause-changed g c = not_ok _ c.from_residual.result c.from_residual.ensures.0

pub returns-in_err-add_member-clause-kept : goal.returns-in_err-add_member-clause-kept
returns-in_err-add_member-clause-kept g c = on_err c.from_residual.result c.in_err-add_member.ensures.kept

pub returns-in_err-add_member-clause-group : goal.returns-in_err-add_member-clause-group
returns-in_err-add_member-clause-group g c = rw c.in_err-add_member.ensures.kept c.requires.group

pub returns-clause-changed : goal.returns-clause-changed
returns-clause-changed g c = c.in_ok-add_member.ensures.changed
