use Rattle.std.proofs.Common.{[]}
use Rattle.member_group.proofs.AnswerLemmas.{made_answer, memory_answer, no_group, removes}
use Rattle.member_group.proofs.config.Config.remove_group.Goals as goal

pub returns-in_err-at : goal.returns-in_err-at
returns-in_err-at g c = record { answer = no_group (λ group. []) _ _ _ _ c.in_err-at.ensures.absent c.from_residual.ensures.1 }

pub returns-in_err-without_group : goal.returns-in_err-without_group
returns-in_err-without_group g c =
    record { answer = memory_answer _ _ _ (removes c.args.key c.args.self.now c.in_ok-at.at c.in_ok-at.ensures.found) c.from_residual-in_err-without_group.ensures.1 }

pub returns : goal.returns
returns g c =
    record { answer = made_answer _ _ _ (removes c.args.key c.args.self.now c.in_ok-at.at c.in_ok-at.ensures.found) c.in_ok-without_group.ensures.changed }
