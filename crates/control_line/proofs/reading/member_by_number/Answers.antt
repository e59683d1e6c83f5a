use Rattle.std.proofs.Common.{ap, sym, ◌∙◌}
use Rattle.std.specs.List.{find}
use Rattle.std.proofs.lemmas.Bool.{eq-eqb, ne_eqb}
use Rattle.member_group.specs.Group.{has_id}
use Rattle.packet_verdict.proofs.FindLemmas.{found_here, none_more}
use Rattle.control_line.proofs.reading.member_by_number.Goals as goal

pub returns-then-member-number : goal.returns-then-member-number
returns-then-member-number c =
    sym (found_here (has_id c.args.number) c.members-member-items.result.now c.loop-member.member-index c.member-item.result c.loop-member-test.true c.member-item.is
    (eq-eqb c.member-item.result.id c.args.number c.if-member-number.true) c.loop-member.invariant)
    ∙ ap (find (has_id c.args.number)) c.members-member-items.ensures.members

pub loop-member-preserved : goal.loop-member-preserved
loop-member-preserved c =
    none_more (has_id c.args.number) c.members-member-items.result.now c.loop-member.member-index c.member-item.result c.loop-member-test.true c.member-item.is
    (ne_eqb c.member-item.result.id c.args.number c.if-member-number.false) c.loop-member.invariant
