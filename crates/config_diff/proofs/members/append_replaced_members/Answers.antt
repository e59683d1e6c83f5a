use Rattle.std.proofs.lemmas.Result.{on_ok_weaker}
use Rattle.config_diff.proofs.BodyLemmas.{more_of_both}
use Rattle.config_diff.proofs.members.append_replaced_members.Goals as goal

pub returns : goal.returns
returns g c = record {
  appended = on_ok_weaker c.append_joins.result (λ joined. more_of_both _ _ _ _ _ c.in_ok-append_leaves.ensures.appended joined) c.append_joins.ensures.appended;
}
