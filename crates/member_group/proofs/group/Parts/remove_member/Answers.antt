use Rattle.std.proofs.Common.{◌<◌, ◌∙◌, ap, arith, length, subst, sym}
use Rattle.bpf_verify.specs.Program.{ProgramValue}
use Rattle.member_group.specs.Group.{GroupOf}
use Rattle.member_group.proofs.ChargeLemmas.{IsCounted-left, charge_of_left, without_at, words_of_left}
use Rattle.member_group.proofs.ListLemmas.{swap_remove-is}
use Rattle.member_group.proofs.group.Parts.remove_member.Goals as goal

pub overflow_sub-self : goal.overflow_sub-self
overflow_sub-self g c =
    let inside = subst (λ (group : GroupOf ProgramValue). c.args.at < length group.members) (sym c.self.view_is) c.requires.inside in
    let left = charge_of_left _ c.self.inside.charge c.self.inside.words c.self.invariant c.args.at c.swap_remove-gone.result inside c.swap_remove-gone.ensures.value c.charge_of_program.result c.charge_of_program.ensures.charge in
    omega (arith, left)

pub overflow_sub-self-2 : goal.overflow_sub-self-2
overflow_sub-self-2 g c =
    let inside = subst (λ (group : GroupOf ProgramValue). c.args.at < length group.members) (sym c.self.view_is) c.requires.inside in
    let left = words_of_left _ c.self.inside.charge c.self.inside.words c.self.invariant c.args.at c.swap_remove-gone.result inside c.swap_remove-gone.ensures.value c.words_of_program.result c.words_of_program.ensures.words in
    omega (arith, left)

pub invariant_of-self : goal.invariant_of-self
invariant_of-self g c =
    let inside = subst (λ (group : GroupOf ProgramValue). c.args.at < length group.members) (sym c.self.view_is) c.requires.inside in
    rw (c.swap_remove-gone.ensures.items, swap_remove-is c.self.inside.members.items c.args.at c.swap_remove-gone.result inside)
    (IsCounted-left _ c.self.inside.charge c.self.inside.words c.self.invariant c.args.at c.swap_remove-gone.result inside c.swap_remove-gone.ensures.value
    c.charge_of_program.result c.words_of_program.result c.charge_of_program.ensures.charge c.words_of_program.ensures.words)

pub returns : goal.returns
returns g c =
    let inside = subst (λ (group : GroupOf ProgramValue). c.args.at < length group.members) (sym c.self.view_is) c.requires.inside in
    record {
      changed = ap (λ members. record { key = c.self.inside.key; selector = c.self.inside.selector; members = members })
          (c.swap_remove-gone.ensures.items ∙ swap_remove-is c.self.inside.members.items c.args.at c.swap_remove-gone.result inside)
          ∙ ap (without_at c.args.at) c.self.view_is;
    }
