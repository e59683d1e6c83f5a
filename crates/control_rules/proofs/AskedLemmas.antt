-- How asking fails, by how the line failed.
use Rattle.std.proofs.Common.{◌≡◌, Err, List, None, Ok, Option, Result, subst, sym, ℕ}
use Rattle.std.specs.Prelude.{IfErr}
use Rattle.control_client.specs.Exchange.{LineEndsBy}
use Rattle.control_client.specs.Wire.{Event}
use Rattle.control_client.specs.declared.device.Peer.{Peer}
use Rattle.control_rules.specs.Asked.{AskEndsBy, failure_of}
use Rattle.control_rules.specs.declared.ask_failure.AskFailure.{AskFailure}
use Rattle.control_rules.specs.declared.ask_failure.AskFailure.TheVariants.{BindFailed, NoAnswer, OutOfMemory, PollFailed, ReadFailed, RulesChanged}

pub ask_ends : (failure : AskFailure) (switch : Peer) (line : List ℕ) (log log' : Option (List Event))
    → LineEndsBy (failure_of failure) switch line log log' None None → AskEndsBy failure switch line log log'
ask_ends NoAnswer switch line log log' ends = (ends.events, ends.is_last, ends.logged)
ask_ends PollFailed switch line log log' ends = (ends.events, ends.is_last, ends.logged)
ask_ends OutOfMemory switch line log log' ends = absurd ends
ask_ends ReadFailed switch line log log' ends = absurd ends
ask_ends BindFailed switch line log log' ends = absurd ends
ask_ends RulesChanged switch line log log' ends = absurd ends

pub if_ok : {A E : Type 0} (result : Result A E) (value : A) (P : E → Type 0) → result ≡ Ok value → IfErr result P
if_ok result value P is = subst (λ it. IfErr it P) (sym is) tt

pub if_err : {A E : Type 0} (result : Result A E) (failure : E) (P : E → Type 0) → result ≡ Err failure → P failure → IfErr result P
if_err result failure P is holds = subst (λ it. IfErr it P) (sym is) holds
