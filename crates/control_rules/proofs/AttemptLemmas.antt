-- What one attempt comes to, by the reply.
use Rattle.std.proofs.Common.{◌≡◌, ◌⊎◌, List, inl, inr, subst, sym, ℕ}
use Rattle.member_group.specs.Group.{GroupOf}
use Rattle.control_rules.specs.History.{ClientValue, History, IsReadLine, Learns}
use Rattle.control_rules.specs.Failing.{StopsAsking}
use Rattle.control_rules.specs.Load.{IsEnd, Sends, TryFails, file_unread, reading_failed}
use Rattle.control_rules.specs.body.Attempt.{IsAttempt, IsReplyRead}
use Rattle.control_rules.specs.declared.ask_failure.AskFailure.{AskFailure}
use Rattle.control_rules.specs.declared.ask_failure.AskFailure.TheVariants as failed
use Rattle.control_rules.proofs.LearnLemmas.{learns_weaker}
use Rattle.control_rules.proofs.StopLemmas.{stops_unstored}
use Rattle.control_rules.specs.declared.loading.Attempt.{Attempt}
use Rattle.control_rules.specs.declared.loading.Attempt.TheVariants.{Again, Ended}
use Rattle.control_rules.specs.declared.loading.Loaded.TheVariants.{Changed, Published, Refused, Unchanged}

pub attempt_read : (file : List ℕ) (wanted : List (GroupOf (List ℕ))) (before after : ClientValue) (reply : List ℕ) (attempt : Attempt) → IsReplyRead reply attempt →
    Sends file wanted before after reply → IsAttempt file wanted before after attempt
attempt_read file wanted before after reply (Ended (Published version)) is sends = (reply, sends, is)
attempt_read file wanted before after reply (Ended (Refused text)) is sends = (subst (Sends file wanted before after) (sym is.0) sends, subst IsEnd (sym is.0) is.1)
attempt_read file wanted before after reply (Ended (Unchanged version)) is sends = absurd is
attempt_read file wanted before after reply (Ended Changed) is sends = absurd is
attempt_read file wanted before after reply (Again busy) is sends = (reply, sends, is)

-- the request could not be made of what was read
pub unmade_request : (file : List ℕ) (wanted : List (GroupOf (List ℕ))) (failure : AskFailure) (before after : ClientValue) (Holds : History → Type 0) →
    (failure ≡ failed.ReadFailed) ⊎ (failure ≡ failed.OutOfMemory) → Learns before after Holds → TryFails file wanted failure before after
unmade_request file wanted failure before after Holds (inl is) it = file_unread is (learns_weaker before after Holds (λ history. Unit {0}) (λ history are holds. tt) it)
unmade_request file wanted failure before after Holds (inr is) it =
    reading_failed (subst (λ (one : AskFailure). StopsAsking IsReadLine one before after) (sym is) (stops_unstored before after Holds it))
