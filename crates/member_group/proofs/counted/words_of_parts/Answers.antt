use Rattle.std.proofs.Common.{◌≡◌, ◌∙◌, arith, get_or, length}
use Rattle.std.specs.List.{sum_by}
use Rattle.std.specs.Option.{option_to_list}
use Rattle.bpf_verify.specs.Program.{ProgramValue}
use Rattle.member_group.specs.Group.{GroupOf}
use Rattle.member_group.proofs.ChargeLemmas.{sum_of_group-all, sum_of_group-more}
use Rattle.member_group.proofs.counted.words_of_parts.Goals as goal

pub returns-clause-words : goal.returns-clause-words
returns-clause-words g c = λ key.
    let group : GroupOf ProgramValue = record { key = key; selector = c.args.selector.now; members = c.args.members.now } in
    c.loop-member.invariant.counted key ∙ sum_of_group-all (λ program. length program.words) group c.loop-member.member-index c.loop-member-test.false

pub loop-member-preserved : goal.loop-member-preserved
loop-member-preserved g c =
    let i = c.loop-member.member-index in
    let member = c.member-item.result in
    let before = c.loop-member.invariant.bounded in
    record {
      counted = λ key.
          let group : GroupOf ProgramValue = record { key = key; selector = c.args.selector.now; members = c.args.members.now } in
          let more = sum_of_group-more (λ program. length program.words) group i member c.loop-member-test.true in
          let first = c.loop-member.invariant.counted key in
          let filter : c.words_of_program-words-in-loop-member.result ≡ sum_by (λ program. length program.words) (option_to_list (get_or group.members i member).filter) =
          rw (← c.member-item.is) c.words_of_program-words-in-loop-member.ensures.words in
          omega arith;
      bounded = omega arith;
    }
