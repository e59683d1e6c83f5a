use Rattle.std.proofs.Common.{map, subst}
use Rattle.std.specs.Prelude.{option_to_list}
use Rattle.std.proofs.lemmas.Result.{on_ok_weaker}
use Rattle.member_group.specs.declared.command.Command.TheVariants.{SetFilter}
use Rattle.config_diff.specs.body.Appended.{HasMore}
use Rattle.config_diff.proofs.BodyLemmas.{lent_words, more_of_both}
use Rattle.config_diff.proofs.members.append_rules_of_member.Goals as goal

pub returns : goal.returns
returns g c = record {
  appended = on_ok_weaker c.append_lock.result
      (λ locked. more_of_both _ _ _ _ _ c.in_ok-append.ensures.appended
      (more_of_both _ _ _ _ _
      (subst (λ filter. HasMore c.append.new.changes.items c.append_filter_rule.new.changes.items (map (λ program. SetFilter c.args.key c.args.member.now.id program) (option_to_list filter)))
      (lent_words c.as_ref.result c.args.member.now.filter c.as_ref.ensures.value) c.in_ok-append_filter_rule.ensures.appended)
      locked))
      c.append_lock.ensures.appended;
}
