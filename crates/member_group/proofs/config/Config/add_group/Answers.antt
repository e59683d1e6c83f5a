use Rattle.std.proofs.Common.{◌∙◌, ap}
use Rattle.member_group.specs.Command.{with_group}
use Rattle.member_group.proofs.AnswerLemmas.{made_answer, memory_answer}
use Rattle.member_group.proofs.config.Config.add_group.Goals as goal

pub insert_group-requires : goal.insert_group-requires
insert_group-requires g c = record { room = rw c.in_ok-next.ensures.copied c.in_ok-at.ensures.added.0; gap = rw c.in_ok-next.ensures.copied c.in_ok-at.ensures.gap }

pub returns-in_err-next : goal.returns-in_err-next
returns-in_err-next g c = record { answer = memory_answer _ _ _ c.in_ok-at.ensures.added.1 c.from_residual-in_err-next.ensures.1 }

pub returns-in_err-insert_group : goal.returns-in_err-insert_group
returns-in_err-insert_group g c = record { answer = memory_answer _ _ _ c.in_ok-at.ensures.added.1 c.from_residual-in_err-insert_group.ensures.1 }

pub returns : goal.returns
returns g c =
    record { answer = made_answer _ _ _ c.in_ok-at.ensures.added.1 (c.in_ok-insert_group.ensures.changed ∙ ap (with_group c.args.key) c.in_ok-next.ensures.copied) }
