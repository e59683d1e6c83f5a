use Rattle.std.proofs.Common.{ap, sym, ◌∙◌}
use Rattle.std.proofs.lemmas.Bool.{eq-eqb, ne_eqb}
use Rattle.ipv4_fields.specs.Endpoint.{endpoint_number}
use Rattle.member_group.specs.Group.{has_key}
use Rattle.packet_verdict.proofs.FindLemmas.{found_here, none_more}
use Rattle.packet_verdict.proofs.config.group_by_key.Goals as goal

pub returns-then-number : goal.returns-then-number
returns-then-number c =
    let number = sym (c.number.ensures ∙ ap endpoint_number c.key.ensures.key) ∙ c.if-number.true ∙ c.number-in-loop-group.ensures in
    sym (found_here (has_key c.args.key) c.args.groups.now c.loop-group.group-index c.group-item.result c.loop-group-test.true c.group-item.is
    (eq-eqb (endpoint_number c.group-item.result.key) (endpoint_number c.args.key) number) c.loop-group.invariant)

pub loop-group-preserved : goal.loop-group-preserved
loop-group-preserved c =
    none_more (has_key c.args.key) c.args.groups.now c.loop-group.group-index c.group-item.result c.loop-group-test.true c.group-item.is
    (ne_eqb (endpoint_number c.group-item.result.key) (endpoint_number c.args.key)
    (λ same. c.if-number.false (c.number.ensures ∙ ap endpoint_number c.key.ensures.key ∙ same ∙ sym c.number-in-loop-group.ensures)))
    c.loop-group.invariant
