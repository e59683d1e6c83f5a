use Rattle.std.proofs.Common.{◌≡◌, ◌∙◌, arith, get_or}
use Rattle.std.specs.List.{sum_by}
use Rattle.std.specs.Option.{option_to_list}
use Rattle.member_group.specs.Group.{GroupOf}
use Rattle.bpf_verify.specs.Program.{ProgramValue}
use Rattle.member_group.proofs.ChargeLemmas.{charge_of_group-all, charge_of_group-more}
use Rattle.member_group.proofs.counted.charge_of_parts.Goals as goal

pub returns-clause-charge : goal.returns-clause-charge
returns-clause-charge g c = λ key.
    let group : GroupOf ProgramValue = record { key = key; selector = c.args.selector.now; members = c.args.members.now } in
    c.loop-member.invariant.charged key ∙ charge_of_group-all group c.loop-member.member-index c.loop-member-test.false

pub loop-member-preserved : goal.loop-member-preserved
loop-member-preserved g c =
    let i = c.loop-member.member-index in
    let member = c.member-item.result in
    let before = c.loop-member.invariant.bounded in
    record {
      charged = λ key.
          let group : GroupOf ProgramValue = record { key = key; selector = c.args.selector.now; members = c.args.members.now } in
          let more = charge_of_group-more group i member c.loop-member-test.true in
          let first = c.loop-member.invariant.charged key in
          let filter : c.charge_of_program-in-loop-member.result ≡ sum_by (λ program. program.charge) (option_to_list (get_or group.members i member).filter) =
          rw (← c.member-item.is) c.charge_of_program-in-loop-member.ensures.charge in
          omega arith;
      bounded = omega arith;
    }
