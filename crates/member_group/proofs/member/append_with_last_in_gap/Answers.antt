use Rattle.std.proofs.Common.{rules}
use Rattle.std.proofs.lemmas.Result.{on_ok_weaker}
use Rattle.member_group.proofs.ListLemmas.{appended_in_gap}
use Rattle.member_group.proofs.member.append_with_last_in_gap.Goals as goal

pub returns : goal.returns
returns g c = record {
  appended = on_ok_weaker c.append_members-3.result
      (appended_in_gap c.args.at c.args.from.now c.args.to.now.items _ _ _ c.if-at-last.false c.in_ok-append_members.ensures.appended c.in_ok-append_members-2.ensures.appended)
      c.append_members-3.ensures.appended;
}

pub returns-then-at-last : goal.returns-then-at-last
returns-then-at-last g c = search rules
