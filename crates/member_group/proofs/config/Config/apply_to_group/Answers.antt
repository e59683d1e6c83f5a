use Rattle.member_group.specs.body.InPlace.{causes_of, changed_by}
use Rattle.member_group.specs.Refusal.{first_of}
use Rattle.member_group.proofs.AnswerLemmas.{made_answer, memory_answer, same_key}
use Rattle.member_group.proofs.InPlaceLemmas.{group_changed_by, group_missing, group_refused_by, key_kept, none_refused}
use Rattle.member_group.proofs.config.Config.apply_to_group.Goals as goal

pub changed-requires : goal.changed-requires
changed-requires g c =
    record { group = rw (c.index-groups-at.is, c.groups.ensures.groups) (c.groups.ensures.config.groups c.in_ok-at.at c.index-groups-at.result c.in_ok-at.ensures.found.inside) }

pub returns-in_err-at : goal.returns-in_err-at
returns-in_err-at g c = record { answer = group_missing c.args.key c.args.command.now c.args.self.now c.requires _ _ _ c.in_err-at.ensures.absent c.from_residual.ensures.1 }

pub returns-in_err-group : goal.returns-in_err-group
returns-in_err-group g c = record {
  answer = group_refused_by c.args.key c.args.command.now c.args.self.now c.in_ok-at.at c.index-groups-at.result c.requires c.in_ok-at.ensures.found (rw (← c.groups.ensures.groups) c.index-groups-at.is)
      _ _ _ c.in_err-group.ensures.answer c.from_residual-in_err-group.ensures.1;
}

pub with_group_at-requires-clause-same_key : goal.with_group_at-requires-clause-same_key
with_group_at-requires-clause-same_key g c =
    same_key (first_of (causes_of c.args.command.now c.index-groups-at.result)) (changed_by c.args.command.now c.index-groups-at.result) c.index-groups-at.result c.in_ok-group.group c.args.self.now c.in_ok-at.at
    c.in_ok-at.ensures.found.inside (rw (← c.groups.ensures.groups) c.index-groups-at.is) c.in_ok-group.ensures.answer (key_kept c.args.command.now c.index-groups-at.result)

pub returns-in_err-with_group_at : goal.returns-in_err-with_group_at
returns-in_err-with_group_at g c = record {
  answer = memory_answer _ _ _
      (none_refused c.args.key c.args.command.now c.args.self.now c.in_ok-at.at c.index-groups-at.result c.requires c.in_ok-at.ensures.found (rw (← c.groups.ensures.groups) c.index-groups-at.is) _ c.in_ok-group.ensures.answer)
      c.from_residual-in_err-with_group_at.ensures.1;
}

pub returns : goal.returns
returns g c = record {
  answer = made_answer _ _ _
      (none_refused c.args.key c.args.command.now c.args.self.now c.in_ok-at.at c.index-groups-at.result c.requires c.in_ok-at.ensures.found (rw (← c.groups.ensures.groups) c.index-groups-at.is) _ c.in_ok-group.ensures.answer)
      (group_changed_by c.args.key c.args.command.now c.args.self.now c.in_ok-at.at c.index-groups-at.result c.requires c.in_ok-at.ensures.found (rw (← c.groups.ensures.groups) c.index-groups-at.is) _ _
      c.in_ok-group.ensures.answer c.in_ok-with_group_at.ensures.changed);
}
