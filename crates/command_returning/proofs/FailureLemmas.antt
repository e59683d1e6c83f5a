-- How commands fail, and what they have written then.
use Rattle.std.proofs.Common.{◌≡◌, ◌∙◌, ◌⊎◌, Bool, Err, List, None, Ok, Option, Result, Some, [], ap, false, inl, inr, refl, subst, suc, sym, true, ℕ}
use Rattle.std.specs.Prelude.{IfErr, IfOk, IfSome, OnErr}
use Rattle.std.specs.Result.{result_ok}
use Rattle.command_line.specs.declared.command.Waiting.{Waiting}
use Rattle.clap.specs.Words.{HasKind, IsAmong, Text, kind_of}
use Rattle.clap.specs.declared.error.Error.{Error}
use Rattle.clap.specs.declared.error.kind.ErrorKind.TheVariants as kind
use Rattle.command_line.specs.CommandLine.{Command, Request, check, command_in, compile, explain, faults_in, first, judge, pack, packets, query_request, replay, returning, run, spread, waiting, waiting_of}
use Rattle.command_line.specs.Ending.{AppendsBeginning, IsStatus, line_of}
use Rattle.command_line.specs.declared.ending.Status.{Status}
use Rattle.command_line.specs.declared.ending.Status.TheVariants.{Done, Failed, Misused}
use Rattle.command_line.specs.declared.command.Query.{Query}
use Rattle.command_line.specs.declared.command.Query.TheVariants as query
use Rattle.command_line.specs.declared.ending.Failure.{Failure}
use Rattle.command_line.specs.declared.ending.Failure.TheVariants.{BindFailed, NoAnswer, OutOfMemory, PollFailed, ReadFailed, RulesChanged, SpawnFailed, WriteFailed}
use Rattle.command_line.specs.declared.ending.Status.TheVariants as status
use Rattle.command_query.specs.Query.{IsAnswerText, MayFail, QueryWritesBefore}
use Rattle.command_streams.specs.Failures.{FailuresValue, HasCause, OutputFails, known_after}
use Rattle.command_streams.proofs.FailureLemmas.{is_known_after, write_cause}
use Rattle.control.specs.Streams.{InputValue}
use Rattle.command_replay.specs.Replaying.{HasCauseThenFlush, ReplayMayFail}
use Rattle.command_replay.proofs.CauseLemmas.{replay_then_flush, then_flush}
use Rattle.command_replay.proofs.RepliesLemmas.{begins_with_none}
use Rattle.command_returning.specs.Request.{AskToWait, EndsInFailure, EndsWithCause, HasCauseBy, HasCauseOf, MayFailBy, Writes, WritesBefore, WritesBeforeBy}

-- where the words have a fault, they ask for no command that may wait
text_may_fail : (words : List Text) (fault : Error) (failure : Failure) → HasKind (faults_in words) fault
    → (failure ≡ WriteFailed) ⊎ (failure ≡ OutOfMemory) → (kind_of fault ≡ kind.OutOfMemory → failure ≡ OutOfMemory) → MayFailBy words failure
text_may_fail words fault ReadFailed kinds either memory = elim either [ inl e ↦ cc | inr e ↦ cc ]
text_may_fail words fault SpawnFailed kinds either memory = elim either [ inl e ↦ cc | inr e ↦ cc ]
text_may_fail words fault BindFailed kinds either memory = elim either [ inl e ↦ cc | inr e ↦ cc ]
text_may_fail words fault PollFailed kinds either memory = elim either [ inl e ↦ cc | inr e ↦ cc ]
text_may_fail words fault NoAnswer kinds either memory = elim either [ inl e ↦ cc | inr e ↦ cc ]
text_may_fail words fault RulesChanged kinds either memory = elim either [ inl e ↦ cc | inr e ↦ cc ]
text_may_fail words fault OutOfMemory kinds either memory = tt
text_may_fail words fault WriteFailed kinds either memory = λ ask. elim kinds [
  | inl no_memory ↦ let bad : ◌≡◌ {A = Failure} WriteFailed OutOfMemory = memory no_memory in cc
  | inr among ↦ subst (IsAmong (kind_of fault)) ask.0 among
]

-- ---- what a command that failed has written

-- of a command with one result
-- a command that returned is done or refused
never_failed : (request : Request) (known before after : Option (List ℕ)) → Writes request known Failed before after → ⊥
never_failed first known before after writes = writes.1
never_failed (check name) known before after writes = writes.1
never_failed (compile expression name) known before after writes = writes.1
never_failed (run digits name) known before after writes = writes.1
never_failed (judge digits expression) known before after writes = writes.1
never_failed (pack source destination digits text) known before after writes = writes.1
never_failed (explain code) known before after writes = writes.1
never_failed (packets unwrap) known before after writes = writes.2.text_is
never_failed (spread depth by shares) known before after writes = writes.1
never_failed (replay summary quiet) known before after writes = let done = writes.done in cc

pub never_misused : (request : Request) (known before after : Option (List ℕ)) → Writes request known Misused before after → ⊥
never_misused first known before after writes = writes.1
never_misused (check name) known before after writes = writes.1
never_misused (compile expression name) known before after writes = writes.1
never_misused (run digits name) known before after writes = writes.1
never_misused (judge digits expression) known before after writes = writes.1
never_misused (pack source destination digits text) known before after writes = writes.1
never_misused (explain code) known before after writes = writes.1
never_misused (packets unwrap) known before after writes = writes.2.text_is
never_misused (spread depth by shares) known before after writes = writes.1
never_misused (replay summary quiet) known before after writes = let done = writes.done in cc

query_before : (it : Query) (failure : Failure) (known before after : Option (List ℕ)) → QueryWritesBefore (query_request it) failure known before after
    → WritesBefore (query_request it) failure known before after
query_before query.First failure known before after is = is
query_before (query.Check _) failure known before after is = is
query_before (query.Compile _ _) failure known before after is = is
query_before (query.Run _ _) failure known before after is = is
query_before (query.Judge _ _) failure known before after is = is
query_before (query.Pack _ _ _ _) failure known before after is = is
query_before (query.Explain _) failure known before after is = is
query_before (query.Spread _) failure known before after is = is

-- the text of an input is that of what is known of it afterwards
text_after : (request : Request) (input input' : InputValue) (ended : Status) (text : List ℕ) → IsAnswerText request input.coming ended text
    → IsAnswerText request (known_after input input') ended text
text_after request input input' Done text (answer, (read, is, found), same) = (answer, (read, is_known_after input input' read is, found), same)
text_after request input input' status.Refused text (inl (reason, (read, is, why), same)) = inl (reason, (read, is_known_after input input' read is, why), same)
text_after request input input' status.Refused text (inr (fault, (read, is, why), same)) = inr (fault, (read, is_known_after input input' read is, why), same)
text_after request input input' Misused text is = is
text_after request input input' Failed text is = is

query_after : (request : Request) (failure : Failure) (input input' : InputValue) (before after : Option (List ℕ)) → QueryWritesBefore request failure input.coming before after
    → QueryWritesBefore request failure (known_after input input') before after
query_after request WriteFailed input input' before after (ended, text, is, begun) = (ended, text, text_after request input input' ended text is, begun)
query_after request ReadFailed input input' before after is = is
query_after request OutOfMemory input input' before after is = is
query_after request SpawnFailed input input' before after is = is
query_after request BindFailed input input' before after is = is
query_after request PollFailed input input' before after is = is
query_after request NoAnswer input input' before after is = is
query_after request RulesChanged input input' before after is = is

pub query_fails : (it : Query) (result : Result Status Failure) (input input' : InputValue) (before after : Option (List ℕ))
    → IfErr result (λ failure. QueryWritesBefore (query_request it) failure input.coming before after)
    → IfErr result (λ failure. WritesBefore (query_request it) failure (known_after input input') before after)
query_fails it (Ok ended) input input' before after is = tt
query_fails it (Err failure) input input' before after is =
    query_before it failure (known_after input input') before after (query_after (query_request it) failure input input' before after is)

pub replay_fails : (summary quiet : Bool) (result : Result Status Failure) → IfErr result ReplayMayFail → IfErr result (MayFail (replay summary quiet))
replay_fails summary quiet (Ok status) may = tt
replay_fails summary quiet (Err ReadFailed) may = may
replay_fails summary quiet (Err WriteFailed) may = may
replay_fails summary quiet (Err OutOfMemory) may = may
replay_fails summary quiet (Err SpawnFailed) may = may
replay_fails summary quiet (Err BindFailed) may = may
replay_fails summary quiet (Err PollFailed) may = may
replay_fails summary quiet (Err NoAnswer) may = may
replay_fails summary quiet (Err RulesChanged) may = may

before_anything : (request : Request) (known before : Option (List ℕ)) → WritesBefore request OutOfMemory known before before
before_anything first known before = refl
before_anything (check name) known before = refl
before_anything (compile expression name) known before = refl
before_anything (run digits name) known before = refl
before_anything (judge digits expression) known before = refl
before_anything (pack source destination digits text) known before = refl
before_anything (explain code) known before = refl
before_anything (packets unwrap) known before = inl refl
before_anything (spread depth by shares) known before = refl
before_anything (replay false false) known before = begins_with_none known before
before_anything (replay true false) known before = inl (begins_with_none known before)
before_anything (replay false true) known before = refl
before_anything (replay true true) known before = refl

-- words with a fault fail before any command
before_text : (words : List Text) (why : Error) (failure : Failure) (known before after : Option (List ℕ)) → HasKind (faults_in words) why
    → (kind_of why ≡ kind.OutOfMemory → failure ≡ OutOfMemory) → (kind_of why ≡ kind.OutOfMemory → after ≡ before) → WritesBeforeBy words failure known before after
before_text words why failure known before after kinds memory untold = (
  λ none request named. elim kinds [
    | inl no_memory ↦
        subst (λ f. WritesBefore request f known before after) (sym (memory no_memory))
        (subst (λ a. WritesBefore request OutOfMemory known before a) (sym (untold no_memory)) (before_anything request known before))
    | inr among ↦ absurd (subst (IsAmong (kind_of why)) none among)
  ],
  λ ask. elim kinds [ inl no_memory ↦ untold no_memory | inr among ↦ absurd (subst (IsAmong (kind_of why)) ask.0 among) ],
)

-- ---- how the words' command ended

-- with this status, if it did not fail
pub ended_ok : (ended : Result Status Failure) (status wanted : Status) → IfOk ended (λ given. status ≡ given) → OnErr ended (status ≡ Failed) → status ≡ wanted
    → (wanted ≡ Failed → ⊥) → ended ≡ Ok wanted
ended_ok (Ok given) status wanted is failed same other = ap (λ (s : Status). Ok s) (sym is ∙ same)
ended_ok (Err failure) status wanted is failed same other = absurd (other (sym same ∙ failed))

-- the request that the words name is one
pub same_request : (words : List Text) (a b : Request) → command_in words ≡ Some (returning a) → command_in words ≡ Some (returning b) → a ≡ b
same_request words a b is also = let same : ◌≡◌ {A = Option Command} (Some (returning a)) (Some (returning b)) = sym is ∙ also in cc

-- a command that returns does not wait
pub waits_not : (words : List Text) (request : Request) → command_in words ≡ Some (returning request) → AskToWait words → ⊥
waits_not words request is ask =
    let same : ◌≡◌ {A = Option Command} (Some (returning request)) (Some (waiting ask.1.0)) = sym is ∙ ask.1.1 in cc

may_fail_by : (words : List Text) (request : Request) (failure : Failure) → command_in words ≡ Some (returning request) → MayFail request failure
    → MayFailBy words failure
may_fail_by words request ReadFailed is may = (request, is, may)
may_fail_by words request WriteFailed is may = waits_not words request is
may_fail_by words request OutOfMemory is may = may
may_fail_by words request SpawnFailed is may = may
may_fail_by words request BindFailed is may = may
may_fail_by words request PollFailed is may = may
may_fail_by words request NoAnswer is may = may
may_fail_by words request RulesChanged is may = may

pub command_failed : {X : Type 0} (errors : X → Option (List ℕ)) (errs mid : X) (words : List Text) (request : Request) (ended : Result Status Failure) (status : Status)
    (known whole before after told_after : Option (List ℕ))
    → command_in words ≡ Some (returning request) → IfErr ended (MayFail request) → IfErr ended (λ failure. WritesBefore request failure known before after)
    → OnErr ended (mid ≡ errs) → IfErr ended (λ failure. AppendsBeginning (errors mid) told_after (line_of failure))
    → IfOk ended (λ given. status ≡ given) → IfOk ended (λ given. Writes request whole given before after) → status ≡ Failed
    → EndsInFailure words known before after (errors errs) told_after
command_failed errors errs mid words request (Ok given) status known whole before after told_after named may written untold told is writes failed =
    absurd (never_failed request whole before after (subst (λ s. Writes request whole s before after) (sym is ∙ failed) writes))
command_failed errors errs mid words request (Err failure) status known whole before after told_after named may written untold told is writes failed = record {
  failure = failure;
  may_fail = may_fail_by words request failure named may;
  written = (λ none other also. subst (λ r. WritesBefore r failure known before after) (same_request words request other named also) written, λ ask. absurd (waits_not words request named ask));
  told = subst (λ e. AppendsBeginning (errors e) told_after (line_of failure)) untold told;
}

pub fault_failed : {X Y : Type 0} (errors : X → Option (List ℕ)) (contents : Y → Option (List ℕ)) (errs mid : X) (out out' : Y) (words : List Text) (fault : Error)
    (ended : Result Status Failure) (status : Status) (known told_after : Option (List ℕ))
    → HasKind (faults_in words) fault → IfErr ended (λ failure. (failure ≡ WriteFailed) ⊎ (failure ≡ OutOfMemory))
    → (kind_of fault ≡ kind.OutOfMemory → (ended ≡ Err OutOfMemory) × (out' ≡ out))
    → OnErr ended (mid ≡ errs) → IfErr ended (λ failure. AppendsBeginning (errors mid) told_after (line_of failure))
    → IfOk ended (λ given. status ≡ given) → IfOk ended (λ given. (given ≡ Done) ⊎ (given ≡ Misused)) → status ≡ Failed
    → EndsInFailure words known (contents out) (contents out') (errors errs) told_after
fault_failed errors contents errs mid out out' words fault (Ok given) status known told_after kinds either memory untold told is ends failed =
    elim ends [ inl done ↦ let same : ◌≡◌ {A = Status} Failed Done = sym failed ∙ is ∙ done in cc | inr misused ↦ let same : ◌≡◌ {A = Status} Failed Misused = sym failed ∙ is ∙ misused in cc ]
fault_failed errors contents errs mid out out' words fault (Err failure) status known told_after kinds either memory untold told is ends failed =
    let same : kind_of fault ≡ kind.OutOfMemory → failure ≡ OutOfMemory =
    λ e. let both : ◌≡◌ {A = Result Status Failure} (Err failure) (Err OutOfMemory) = (memory e).0 in cc in record {
      failure = failure;
      may_fail = text_may_fail words fault failure kinds either same;
      written = before_text words fault failure known (contents out) (contents out') kinds same (λ e. ap contents (memory e).1);
      told = subst (λ e. AppendsBeginning (errors e) told_after (line_of failure)) untold told;
    }

-- ---- and by which device

-- the cause of a command, whose last flush may fail, too
pub command_then_flush : (request : Request) (ended : Result Status Failure) (read read' : ℕ) (wrote wrote' : FailuresValue) → HasCauseOf request ended read read' wrote wrote'
    → HasCauseThenFlush ended read read' wrote wrote'
command_then_flush first ended read read' wrote wrote' cause = then_flush ended read read' wrote wrote' cause
command_then_flush (check name) ended read read' wrote wrote' cause = then_flush ended read read' wrote wrote' cause
command_then_flush (compile expression name) ended read read' wrote wrote' cause = then_flush ended read read' wrote wrote' cause
command_then_flush (run digits name) ended read read' wrote wrote' cause = then_flush ended read read' wrote wrote' cause
command_then_flush (judge digits expression) ended read read' wrote wrote' cause = then_flush ended read read' wrote wrote' cause
command_then_flush (pack source destination digits text) ended read read' wrote wrote' cause = then_flush ended read read' wrote wrote' cause
command_then_flush (explain code) ended read read' wrote wrote' cause = then_flush ended read read' wrote wrote' cause
command_then_flush (packets unwrap) ended read read' wrote wrote' cause = then_flush ended read read' wrote wrote' cause
command_then_flush (spread depth by shares) ended read read' wrote wrote' cause = then_flush ended read read' wrote wrote' cause
command_then_flush (replay summary quiet) ended read read' wrote wrote' cause = replay_then_flush quiet ended read read' wrote wrote' cause

pub words_then_flush : (words : List Text) (ended : Result Status Failure) (read read' : ℕ) (wrote wrote' : FailuresValue) → HasCauseBy words ended read read' wrote wrote'
    → HasCauseThenFlush ended read read' wrote wrote'
words_then_flush words ended read read' wrote wrote' (inl (request, none, named, cause)) = command_then_flush request ended read read' wrote wrote' cause
words_then_flush words ended read read' wrote wrote' (inr cause) = then_flush ended read read' wrote wrote' cause

pub query_cause : (it : Query) (ended : Result Status Failure) (read read' : ℕ) (wrote wrote' : FailuresValue) → HasCause ended read read' wrote wrote'
    → HasCauseOf (query_request it) ended read read' wrote wrote'
query_cause query.First ended read read' wrote wrote' cause = cause
query_cause (query.Check _) ended read read' wrote wrote' cause = cause
query_cause (query.Compile _ _) ended read read' wrote wrote' cause = cause
query_cause (query.Run _ _) ended read read' wrote wrote' cause = cause
query_cause (query.Judge _ _) ended read read' wrote wrote' cause = cause
query_cause (query.Pack _ _ _ _) ended read read' wrote wrote' cause = cause
query_cause (query.Explain _) ended read read' wrote wrote' cause = cause
query_cause (query.Spread _) ended read read' wrote wrote' cause = cause

pub command_caused : {X : Type 0} (errors : X → Option (List ℕ)) (errs mid : X) (words : List Text) (request : Request) (ended : Result Status Failure) (status : Status)
    (known whole before after told_after : Option (List ℕ)) (read read' : ℕ) (wrote wrote' : FailuresValue)
    → command_in words ≡ Some (returning request) → IfErr ended (MayFail request) → IfErr ended (λ failure. WritesBefore request failure known before after)
    → OnErr ended (mid ≡ errs) → IfErr ended (λ failure. AppendsBeginning (errors mid) told_after (line_of failure))
    → IfOk ended (λ given. status ≡ given) → IfOk ended (λ given. Writes request whole given before after) → status ≡ Failed
    → faults_in words ≡ [] → HasCauseOf request ended read read' wrote wrote'
    → EndsWithCause words known before after (errors errs) told_after read read' wrote wrote'
unfolding command_failed
command_caused errors errs mid words request (Ok given) status known whole before after told_after read read' wrote wrote' named may written untold told is writes failed none cause =
    absurd (never_failed request whole before after (subst (λ s. Writes request whole s before after) (sym is ∙ failed) writes))
command_caused errors errs mid words request (Err failure) status known whole before after told_after read read' wrote wrote' named may written untold told is writes failed none cause = record {
  ends = command_failed errors errs mid words request (Err failure) status known whole before after told_after named may written untold told is writes failed;
  cause = inl (request, none, named, cause);
}

pub fault_caused : {X Y : Type 0} (errors : X → Option (List ℕ)) (contents : Y → Option (List ℕ)) (errs mid : X) (out out' : Y) (words : List Text) (fault : Error)
    (ended : Result Status Failure) (status : Status) (known told_after : Option (List ℕ)) (read : ℕ) (wrote wrote' : FailuresValue)
    → HasKind (faults_in words) fault → IfErr ended (λ failure. (failure ≡ WriteFailed) ⊎ (failure ≡ OutOfMemory))
    → (kind_of fault ≡ kind.OutOfMemory → (ended ≡ Err OutOfMemory) × (out' ≡ out))
    → OnErr ended (mid ≡ errs) → IfErr ended (λ failure. AppendsBeginning (errors mid) told_after (line_of failure))
    → IfOk ended (λ given. status ≡ given) → IfOk ended (λ given. (given ≡ Done) ⊎ (given ≡ Misused)) → status ≡ Failed
    → OutputFails ended wrote wrote'
    → EndsWithCause words known (contents out) (contents out') (errors errs) told_after read read wrote wrote'
unfolding fault_failed
fault_caused errors contents errs mid out out' words fault (Ok given) status known told_after read wrote wrote' kinds either memory untold told is ends failed output =
    elim ends [ inl done ↦ let same : ◌≡◌ {A = Status} Failed Done = sym failed ∙ is ∙ done in cc | inr misused ↦ let same : ◌≡◌ {A = Status} Failed Misused = sym failed ∙ is ∙ misused in cc ]
fault_caused errors contents errs mid out out' words fault (Err failure) status known told_after read wrote wrote' kinds either memory untold told is ends failed output = record {
  ends = fault_failed errors contents errs mid out out' words fault (Err failure) status known told_after kinds either memory untold told is ends failed;
  cause = inr (write_cause {A = Status} (Err failure) read read wrote wrote' either refl output);
}

-- ---- a new input and a new output

-- an input that failed at most once is known as it was
pub known_of_new : (input input' : InputValue) → input.failures ≡ 0 → (input'.failures ≡ input.failures) ⊎ (input'.failures ≡ suc input.failures)
    → known_after input input' ≡ input.coming
known_of_new input input' new (inl same) = ap (λ n. known_after input (record { failures = n; coming = input'.coming; left = input'.left })) (same ∙ new)
known_of_new input input' new (inr once) = ap (λ n. known_after input (record { failures = n; coming = input'.coming; left = input'.left })) (once ∙ ap suc new)

-- what holds of their bytes holds of the bytes of the reader and the writer
pub of_streams : (P : Option (List ℕ) → Option (List ℕ) → Option (List ℕ) → Type 0) (known known' before before' after after' : Option (List ℕ))
    → known ≡ known' → before ≡ before' → after ≡ after' → P known before after → P known' before' after'
of_streams P known known' before before' after after' same_input same_before same_after holds =
    subst (λ bytes. P known' before' bytes) same_after (subst (λ bytes. P known' bytes after) same_before (subst (λ bytes. P bytes before after) same_input holds))

-- ---- words whose command may wait

pub ok_kept : {T E : Type 0} (ended : Result T E) (status : T) → result_ok ended ≡ Some status → ended ≡ Ok status
ok_kept (Ok given) status same = let is : given ≡ status = cc in ap Ok is
ok_kept (Err command) status same = absurd cc

pub asks_to_wait : (words : List Text) (ended : Result ℕ Waiting) → IfErr ended (λ command. (faults_in words ≡ []) × (command_in words ≡ Some (waiting (waiting_of command))))
    → result_ok ended ≡ None → AskToWait words
asks_to_wait words (Ok status) waits none = absurd cc
asks_to_wait words (Err command) waits none = (waits.0, (waiting_of command, waits.1))

-- the status, if there is one
pub status_of : (ended : Result ℕ Waiting) (status : Option ℕ) → status ≡ result_ok ended → IfOk ended IsStatus → IfSome status IsStatus
status_of (Ok code) status same is = subst (λ (s : Option ℕ). IfSome s IsStatus) (sym same) is
status_of (Err command) status same is = subst (λ (s : Option ℕ). IfSome s IsStatus) (sym same) tt
