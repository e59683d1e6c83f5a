-- How far a script was read and its requests were replied to, and what each piece of it adds.
use Rattle.std.specs.Prelude.{◌≡◌, ◌++◌, ◌∷◌, Err, List, Ok, Option, Result, [], suc, ℕ}
use Rattle.std.specs.Io.KnownBytes.{Appends}
use Rattle.control.specs.declared.fault.ReplayFault.{ReplayFault}
use Rattle.control.specs.declared.fault.ReplayFault.TheVariants.{OutOfMemory, ReadFailed, WriteFailed}
use Rattle.control.specs.declared.script.Script.{Script}
use Rattle.control.specs.body.Held.{Holds}
use Rattle.control.specs.body.Ready.{IsReady}
use Rattle.control.specs.body.Waiting.{WritesAllBut}
use Rattle.control.specs.Replay.{WasWritten}
use Rattle.control.specs.Script.{AreAnswered, IsScriptText, RepliesTo, Standing}

abbrev pub IsReadyAt : Script → Standing → Type 0
IsReadyAt script now = IsReady script.switch.operator script.switch.workers.items now

-- the whole requests that were read have their replies, and enough of the part of the next one is kept; the output took the replies
-- after `start`, except for those that wait
pub record IsAt (read : List ℕ) (start : Option (List ℕ)) (script : Script) (taken : Option (List ℕ)) (waiting : List ℕ) : Type 0 where
  pub lines : List ℕ
  pub part : List ℕ
  pub text : List ℕ
  pub now : Standing
  pub read_is : read ≡ lines ++ part
  pub answered : AreAnswered lines text now
  pub holds : Holds part script.held
  pub ready : IsReadyAt script now
  pub written : WritesAllBut waiting start taken text

-- a beginning of the replies to requests that were read was written; the failures of the output are so many then
pub record IsCutShort (failures : ℕ) (read : List ℕ) (start taken : Option (List ℕ)) : Type 0 where
  pub lines : List ℕ
  pub rest : List ℕ
  pub text : List ℕ
  pub last : Standing
  pub told : List ℕ
  pub untold : List ℕ
  pub read_is : read ≡ lines ++ rest
  pub answered : AreAnswered lines text last
  pub beginning : text ≡ told ++ untold
  pub written : WasWritten failures start taken told

-- the replies to some first requests that were read were written, or wait
pub record IsStopped (read : List ℕ) (start taken : Option (List ℕ)) (waiting : List ℕ) : Type 0 where
  pub lines : List ℕ
  pub rest : List ℕ
  pub text : List ℕ
  pub last : Standing
  pub read_is : read ≡ lines ++ rest
  pub answered : AreAnswered lines text last
  pub written : WritesAllBut waiting start taken text

-- the effect of a piece of a script
abbrev pub Advances : ℕ → List ℕ → Script → Script → Option (List ℕ) → List ℕ → Option (List ℕ) → List ℕ → Result (Unit {0}) ReplayFault → Type 0
Advances failures bytes script script' taken waiting taken' waiting' (Ok done) =
    (read : List ℕ) (start : Option (List ℕ)) → IsAt read start script taken waiting → IsAt (read ++ bytes) start script' taken' waiting'
Advances failures bytes script script' taken waiting taken' waiting' (Err WriteFailed) =
    (read : List ℕ) (start : Option (List ℕ)) → IsAt read start script taken waiting → IsCutShort failures (read ++ bytes) start taken'
Advances failures bytes script script' taken waiting taken' waiting' (Err OutOfMemory) =
    (read : List ℕ) (start : Option (List ℕ)) → IsAt read start script taken waiting → IsStopped (read ++ bytes) start taken' waiting'
Advances failures bytes script script' taken waiting taken' waiting' (Err ReadFailed) = ⊥

-- the text of a whole script was written
pub record IsWritten (read : List ℕ) (start taken : Option (List ℕ)) : Type 0 where
  pub text : List ℕ
  pub is_text : IsScriptText read text
  pub written : Appends start taken text

-- a beginning of the text of a whole script was written
pub record IsCutAtEnd (failures : ℕ) (read : List ℕ) (start taken : Option (List ℕ)) : Type 0 where
  pub text : List ℕ
  pub told : List ℕ
  pub untold : List ℕ
  pub is_text : IsScriptText read text
  pub beginning : text ≡ told ++ untold
  pub written : WasWritten failures start taken told

-- the effect of the end of a script
abbrev pub Ends : ℕ → Script → Option (List ℕ) → Option (List ℕ) → Result (Unit {0}) ReplayFault → Type 0
Ends failures script taken taken' (Ok done) =
    (read : List ℕ) (start : Option (List ℕ)) → IsAt read start script taken [] → IsWritten read start taken'
Ends failures script taken taken' (Err WriteFailed) =
    (read : List ℕ) (start : Option (List ℕ)) → IsAt read start script taken [] → IsCutAtEnd failures read start taken'
Ends failures script taken taken' (Err OutOfMemory) =
    (read : List ℕ) (start : Option (List ℕ)) → IsAt read start script taken [] → IsStopped read start taken' []
Ends failures script taken taken' (Err ReadFailed) = ⊥

-- the request was replied to, and the reply waits as one line after what waited before, of which a beginning may have been written
pub record IsReplied (now : Standing) (request : List ℕ) (script' : Script) (taken : Option (List ℕ)) (waiting : List ℕ) (taken' : Option (List ℕ)) (waiting' : List ℕ) : Type 0 where
  pub reply : List ℕ
  pub next : Standing
  pub replies : RepliesTo now request reply next
  pub ready : IsReadyAt script' next
  pub written : WritesAllBut waiting' taken taken' (waiting ++ (reply ++ 10 ∷ []))

-- a beginning of what waits and its reply was written
pub record IsReplyCut (failures : ℕ) (now : Standing) (request : List ℕ) (taken : Option (List ℕ)) (waiting : List ℕ) (taken' : Option (List ℕ)) : Type 0 where
  pub reply : List ℕ
  pub next : Standing
  pub told : List ℕ
  pub untold : List ℕ
  pub replies : RepliesTo now request reply next
  pub beginning : waiting ++ (reply ++ 10 ∷ []) ≡ told ++ untold
  pub written : WasWritten failures taken taken' told

-- the effect of replying to the request that is kept
abbrev pub AnswersHeld : ℕ → Script → Script → Option (List ℕ) → List ℕ → Option (List ℕ) → List ℕ → Result (Unit {0}) ReplayFault → Type 0
AnswersHeld failures script script' taken waiting taken' waiting' (Ok done) =
    Holds [] script'.held × ((now : Standing) → IsReadyAt script now → IsReplied now script.held.bytes.items script' taken waiting taken' waiting')
AnswersHeld failures script script' taken waiting taken' waiting' (Err WriteFailed) =
    (now : Standing) → IsReadyAt script now → IsReplyCut failures now script.held.bytes.items taken waiting taken'
AnswersHeld failures script script' taken waiting taken' waiting' (Err OutOfMemory) = (taken' ≡ taken) × (waiting' ≡ waiting)
AnswersHeld failures script script' taken waiting taken' waiting' (Err ReadFailed) = ⊥

-- the output failed once if the fault is its own, and else not
abbrev pub OutputFailedBy : Result (Unit {0}) ReplayFault → ℕ → ℕ → Type 0
OutputFailedBy (Ok done) before after = after ≡ before
OutputFailedBy (Err WriteFailed) before after = after ≡ suc before
OutputFailedBy (Err OutOfMemory) before after = after ≡ before
OutputFailedBy (Err ReadFailed) before after = ⊥
