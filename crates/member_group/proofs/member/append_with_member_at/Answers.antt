use Rattle.std.proofs.Common.{◌≡◌, ◌∙◌, ◌+◌, ◌∷◌, ◌++◌, ap, arith, drop, set, suc, sym, take}
use Rattle.std.proofs.lemmas.List.{set_split, take_rest}
use Rattle.member_group.proofs.ListLemmas.{appended_pieces}
use Rattle.member_group.proofs.member.append_with_member_at.Goals as goal

pub returns : goal.returns
returns g c =
    let from = c.args.from.now in
    let at = c.args.at in
    let member = c.args.member in
    let third = rw (take_rest from (at + 1)) at c.in_ok-append_members-2.ensures.appended in
    let next : at + 1 ≡ suc at = omega arith in
    record {
      appended = appended_pieces c.args.to.now.items (take at from) (drop (at + 1) from) (set from at member) _ _ _ _
          c.in_ok-append_members.ensures.appended c.in_ok-push.ensures.items third
          (ap (λ n. take at from ++ member ∷ drop n from) next ∙ sym (set_split from at member c.requires.inside));
    }
