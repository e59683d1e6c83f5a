use Rattle.std.proofs.Common.{◌∙◌, ap, subst, sym}
use Rattle.std.proofs.lemmas.Result.{on_ok_weaker}
use Rattle.member_group.specs.declared.command.Command.TheVariants.{ClearFilter, SetFilter}
use Rattle.config_diff.specs.body.Appended.{HasMore, words_program}
use Rattle.config_diff.specs.body.Changes.{same_words, set_or_clear}
use Rattle.config_diff.proofs.BodyLemmas.{more_of_other}
use Rattle.config_diff.proofs.members.append_filter.Goals as goal

pub returns-in-Some : goal.returns-in-Some
returns-in-Some g c = record {
  appended = on_ok_weaker c.append.result
      (subst (HasMore c.args.changes.now.items c.append.new.changes.items)
      (ap (λ other. set_or_clear (λ program. SetFilter c.args.key c.args.member program) (ClearFilter c.args.key c.args.member) (words_program other)) (sym c.in-Some.is)
      ∙ more_of_other same_words (λ program. SetFilter c.args.key c.args.member program) (ClearFilter c.args.key c.args.member) (words_program c.args.one) (words_program c.args.other)
      (sym c.is_same_program.ensures.same ∙ c.if-is_same_program.false)))
      c.append.ensures.appended;
}
