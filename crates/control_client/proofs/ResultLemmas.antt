-- What is known of a result, by its case.
use Rattle.std.proofs.Common.{◌≡◌, ◌≢◌, ◌∙◌, ◌⊎◌, Bool, Err, List, Ok, Option, Result, inl, inr, refl, subst, sym, ℕ}
use Rattle.std.specs.Prelude.{IfErr, IsErrAnd, OnErr}
use Rattle.command_line.specs.declared.ending.Failure.{Failure}
use Rattle.command_line.specs.declared.ending.Failure.TheVariants.{BindFailed, NoAnswer, OutOfMemory, PollFailed, ReadFailed, RulesChanged, SpawnFailed, WriteFailed}
use Rattle.command_streams.specs.Failures.{FailuresValue}
use Rattle.control_client.specs.Exchange.{LineEndsBy}
use Rattle.control_client.specs.Lines.{LinesFail}
use Rattle.control_client.specs.Wire.{Event}
use Rattle.control_client.specs.declared.device.Peer.{Peer}

-- an error that is told by its fault
pub if_err : {A E : Type 0} (result : Result A E) (fault : E) (P : E → Type 0) → IsErrAnd result (λ told. told ≡ fault) → P fault → IfErr result P
if_err (Ok done) fault P told is = tt
if_err (Err given) fault P told is = subst P (sym told) is

pub on_err : {A E : Type 0} (result : Result A E) (P : Type 0) → P → OnErr result P
on_err (Ok done) P is = tt
on_err (Err given) P is = is

-- lines that could not be had
pub never_unwritten : (fault : Failure) → (fault ≡ ReadFailed) ⊎ (fault ≡ OutOfMemory) → fault ≢ WriteFailed
never_unwritten fault (inl is) written = cc
never_unwritten fault (inr is) written = cc

-- ---- reads that failed

lines_fail : (A B : Type 0) (fault : Failure) (before after : FailuresValue) → LinesFail {A = A} (Err fault) before after → LinesFail {A = B} (Err fault) before after
lines_fail A B ReadFailed before after fails = fails
lines_fail A B WriteFailed before after fails = fails
lines_fail A B OutOfMemory before after fails = fails
lines_fail A B SpawnFailed before after fails = fails
lines_fail A B BindFailed before after fails = fails
lines_fail A B PollFailed before after fails = fails
lines_fail A B NoAnswer before after fails = fails
lines_fail A B RulesChanged before after fails = fails

lines_kept : (A : Type 0) (fault : Failure) (before after : FailuresValue) → fault ≢ ReadFailed → after ≡ before → LinesFail {A = A} (Err fault) before after
lines_kept A ReadFailed before after other kept = absurd (other refl)
lines_kept A WriteFailed before after other kept = kept
lines_kept A OutOfMemory before after other kept = kept
lines_kept A SpawnFailed before after other kept = kept
lines_kept A BindFailed before after other kept = kept
lines_kept A PollFailed before after other kept = kept
lines_kept A NoAnswer before after other kept = kept
lines_kept A RulesChanged before after other kept = kept

-- a fault of a call that read is passed on
pub lines_alike : {A : Type 0} (B : Type 0) (result : Result A Failure) (fault : Failure) (before mid after : FailuresValue) → IsErrAnd result (λ told. told ≡ fault)
    → mid ≡ before → LinesFail {A = B} (Err fault) mid after → LinesFail result before after
lines_alike B (Ok done) fault before mid after told kept fails = absurd told
lines_alike {A = A} B (Err given) fault before mid after told kept fails =
    subst (λ (n : FailuresValue). LinesFail {A = A} (Err given) n after) kept
    (lines_fail B A given mid after (subst (λ (f : Failure). LinesFail {A = B} (Err f) mid after) (sym told) fails))

-- or one of a call that did not read
pub lines_otherwise : {A : Type 0} (result : Result A Failure) (fault : Failure) (before after : FailuresValue) → IsErrAnd result (λ told. told ≡ fault)
    → fault ≢ ReadFailed → after ≡ before → LinesFail result before after
lines_otherwise (Ok done) fault before after told other kept = absurd told
lines_otherwise {A = A} (Err given) fault before after told other kept =
    lines_kept A given before after (λ is. other (sym told ∙ is)) kept

-- a line that was sent ends by no failed read
pub never_unread : (fault : Failure) (switch : Peer) (line : List ℕ) (log log' : Option (List Event)) (out out' : Option (List ℕ)) → LineEndsBy fault switch line log log' out out'
    → fault ≢ ReadFailed
never_unread fault switch line log log' out out' ends = λ is. subst (λ (f : Failure). LineEndsBy f switch line log log' out out') is ends

pub lines_unread : (result : Result Bool Failure) (switch : Peer) (line : List ℕ) (log log' : Option (List Event)) (out out' : Option (List ℕ)) (before after : FailuresValue)
    → IfErr result (λ fault. LineEndsBy fault switch line log log' out out') → after ≡ before → LinesFail result before after
lines_unread (Ok refused) switch line log log' out out' before after ends kept = kept
lines_unread (Err fault) switch line log log' out out' before after ends kept = lines_kept Bool fault before after (never_unread fault switch line log log' out out' ends) kept
