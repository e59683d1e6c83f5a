use Rattle.std.proofs.Common.{◌∙◌, ap, refl, subst, sym}
use Rattle.std.specs.List.{remove}
use Rattle.member_group.specs.Group.{IsConfig, has_key}
use Rattle.member_group.proofs.AnswerLemmas.{made_answer, removes}
use Rattle.member_group.proofs.ConfigLemmas.{removed_is_config}
use Rattle.member_group.proofs.ListLemmas.{filter-only_at}
use Rattle.member_group.proofs.config.Config.remove_in_place.Goals as goal

pub invariant_of-self : goal.invariant_of-self
invariant_of-self g c =
    rw (c.remove-gone.ensures.items ∙ ap (λ groups. remove groups c.in_ok-at.at) c.self.view_is ∙ sym (filter-only_at (has_key c.args.key) c.args.self.now c.in_ok-at.at c.in_ok-at.ensures.found))
    (removed_is_config c.args.key c.args.self.now (subst IsConfig c.self.view_is c.self.invariant))

pub returns-clause-answer : goal.returns-clause-answer
returns-clause-answer g c = made_answer _ _ _ (removes c.args.key c.args.self.now c.in_ok-at.at c.in_ok-at.ensures.found) refl

pub returns-clause-changed : goal.returns-clause-changed
returns-clause-changed g c =
    c.remove-gone.ensures.items
    ∙ ap (λ groups. remove groups c.in_ok-at.at) c.self.view_is
    ∙ sym (filter-only_at (has_key c.args.key) c.args.self.now c.in_ok-at.at c.in_ok-at.ensures.found)
