use Rattle.config_diff.specs.Rules.{rules_of_member}
use Rattle.config_diff.specs.body.Appended.{words_member}
use Rattle.config_diff.proofs.BodyLemmas.{more_of_all, more_of_next}
use Rattle.config_diff.proofs.members.append_joins.Goals as goal

pub loop-member-preserved : goal.loop-member-preserved
loop-member-preserved g c =
    more_of_next (λ member. rules_of_member c.args.key (words_member member)) _ _ _ c.args.members.now c.loop-member.member-index c.member-item.result c.loop-member-test.true c.member-item.is c.loop-member.invariant
    c.in_ok-append_rules_of_member.ensures.appended

pub returns : goal.returns
returns g c =
    record { appended = more_of_all (λ member. rules_of_member c.args.key member) words_member _ _ c.args.members.now c.loop-member.member-index c.loop-member-test.false c.loop-member.invariant }
