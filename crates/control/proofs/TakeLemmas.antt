-- The next bytes of a script, line by line.
use Rattle.std.proofs.Common.{◌≡◌, ◌∙◌, ◌++◌, ◌∷◌, Err, List, Ok, Option, Result, [], ap, append_assoc, append-nil, refl, subst, sym, true, ℕ}
use Rattle.std.specs.Io.KnownBytes.{Appends}
use Rattle.control.specs.declared.fault.ReplayFault.{ReplayFault}
use Rattle.control.specs.declared.fault.ReplayFault.TheVariants.{OutOfMemory, ReadFailed, WriteFailed}
use Rattle.control.specs.declared.held.Held.{Held}
use Rattle.control.specs.declared.script.Script.{Script}
use Rattle.ipv4_fields.specs.Cut.{IsSplitAt}
use Rattle.control.specs.body.Held.{Holds, HoldsAfterLine, IsLastHeld}
use Rattle.control.specs.body.ScriptSoFar.{Advances, AnswersHeld, Ends, IsAt, IsCutShort, IsReadyAt, IsReplied, IsStopped}
use Rattle.control.specs.body.Waiting.{WritesWaiting}
use Rattle.control.specs.body.Writing.{IsWrittenInPart}
use Rattle.control.specs.Script.{Standing}
use Rattle.control.specs.Streams.{OutputValue}
use Rattle.control.proofs.ScriptLemmas.{cut_at_end, cut_before, ended_in_request, holding, stopped, stopped_before, with_part, with_request, with_request_cut}
use Rattle.control.proofs.WaitingLemmas.{cut_is, cut_written, waits_no_more}

-- ---- the end of a line

-- the request ends with it
module _ (script : Script) (held : Held) (ends : (part : List ℕ) → Holds part script.held → HoldsAfterLine true part held) (after : Script) (failures : ℕ)
    (taken : Option (List ℕ)) (waiting : List ℕ) (taken' : Option (List ℕ)) (waiting' : List ℕ) where
  pub request_ended : (result : Result (Unit {0}) ReplayFault) → AnswersHeld failures (holding script held) after taken waiting taken' waiting' result
      → Advances failures (10 ∷ []) script after taken waiting taken' waiting' result
  request_ended (Ok done) answers = λ read start at.
      with_request read start taken taken' waiting waiting' script held after at (ends at.part at.holds) answers.0 (answers.1 at.now at.ready)
  request_ended (Err WriteFailed) cut = λ read start at.
      with_request_cut failures read start taken taken' waiting script held at (ends at.part at.holds) (cut at.now at.ready)
  request_ended (Err OutOfMemory) kept = λ read start at.
      subst (λ known. IsStopped (read ++ 10 ∷ []) start known waiting') (sym kept.0)
      (subst (IsStopped (read ++ 10 ∷ []) start taken) (sym kept.1) (stopped read (10 ∷ []) start taken waiting script at))
  request_ended (Err ReadFailed) never = never

-- memory is refused to more of it
pub no_memory : (bytes : List ℕ) (script after : Script) (failures : ℕ) (taken : Option (List ℕ)) (waiting : List ℕ) (result : Result (Unit {0}) ReplayFault) → result ≡ Err OutOfMemory
    → Advances failures bytes script after taken waiting taken waiting result
no_memory bytes script after failures taken waiting result is =
    subst (λ (r : Result (Unit {0}) ReplayFault). Advances failures bytes script after taken waiting taken waiting r) (sym is) (λ read start at. stopped read bytes start taken waiting script at)

-- ---- lines

-- of the bytes, all but `left` were taken
pub record IsTakenUpTo (bytes left : List ℕ) (script script' : Script) (taken : Option (List ℕ)) (waiting : List ℕ) (taken' : Option (List ℕ)) (waiting' : List ℕ) : Type 0 where
  pub done : List ℕ
  pub is : bytes ≡ done ++ left
  pub so_far : (read : List ℕ) (start : Option (List ℕ)) → IsAt read start script taken waiting → IsAt (read ++ done) start script' taken' waiting'

pub taken_none : (bytes : List ℕ) (script : Script) (taken : Option (List ℕ)) (waiting : List ℕ) → IsTakenUpTo bytes bytes script script taken waiting taken waiting
taken_none bytes script taken waiting = record {
  done = [];
  is = refl;
  so_far = λ read start at. subst (λ front. IsAt front start script taken waiting) (sym (append-nil read)) at;
}

module _ (bytes left : List ℕ) (script mid : Script) (taken : Option (List ℕ)) (waiting : List ℕ) (taken' : Option (List ℕ)) (waiting' : List ℕ)
    (before : IsTakenUpTo bytes left script mid taken waiting taken' waiting') where
  all_read : (read : List ℕ) → (read ++ before.done) ++ left ≡ read ++ bytes
  all_read read = append_assoc read before.done left ∙ ap (λ rest. read ++ rest) (sym before.is)

  module _ (held : Held) (front behind : List ℕ) (split : IsSplitAt 10 left front behind) (adds : (part : List ℕ) → Holds part mid.held → Holds (part ++ front) held) where
    in_line : (read : List ℕ) (start : Option (List ℕ)) → IsAt read start script taken waiting → IsAt ((read ++ before.done) ++ front) start (holding mid held) taken' waiting'
    in_line read start at = with_part (read ++ before.done) front start taken' waiting' mid held (before.so_far read start at) adds

    to_line_end : (read : List ℕ) (rest : List ℕ) → ((read ++ before.done) ++ front) ++ 10 ∷ rest ≡ read ++ (before.done ++ (front ++ 10 ∷ rest))
    to_line_end read rest = append_assoc (read ++ before.done) front (10 ∷ rest) ∙ append_assoc read before.done (front ++ 10 ∷ rest)

    pub taken_line : (after : Script) (failures : ℕ) (then : Option (List ℕ)) (wait : List ℕ) → Advances failures (10 ∷ []) (holding mid held) after taken' waiting' then wait (Ok tt)
        → IsTakenUpTo bytes behind script after taken waiting then wait
    taken_line after failures then wait advances = record {
      done = before.done ++ (front ++ 10 ∷ []);
      is = before.is ∙ (ap (λ rest. before.done ++ rest) (split.whole ∙ sym (append_assoc front (10 ∷ []) behind)) ∙ sym (append_assoc before.done (front ++ 10 ∷ []) behind));
      so_far = λ read start at. subst (λ all. IsAt all start after then wait) (to_line_end read []) (advances ((read ++ before.done) ++ front) start (in_line read start at));
    }

    whole_read : (read : List ℕ) → (((read ++ before.done) ++ front) ++ 10 ∷ []) ++ behind ≡ read ++ bytes
    whole_read read =
        append_assoc ((read ++ before.done) ++ front) (10 ∷ []) behind
        ∙ (to_line_end read behind ∙ ap (λ rest. read ++ rest) (ap (λ rest. before.done ++ rest) (sym split.whole) ∙ sym before.is))

    failed_by : (after : Script) (failures : ℕ) (then : Option (List ℕ)) (wait : List ℕ) (fault : ReplayFault) → Advances failures (10 ∷ []) (holding mid held) after taken' waiting' then wait (Err fault)
        → Advances failures bytes script after taken waiting then wait (Err fault)
    failed_by after failures then wait ReadFailed never = never
    failed_by after failures then wait WriteFailed cut = λ read start at.
        subst (λ all. IsCutShort failures all start then) (whole_read read)
        (cut_before failures (((read ++ before.done) ++ front) ++ 10 ∷ []) behind start then (cut ((read ++ before.done) ++ front) start (in_line read start at)))
    failed_by after failures then wait OutOfMemory stops = λ read start at.
        subst (λ all. IsStopped all start then wait) (whole_read read)
        (stopped_before (((read ++ before.done) ++ front) ++ 10 ∷ []) behind start then wait (stops ((read ++ before.done) ++ front) start (in_line read start at)))

    pub line_failed : (after : Script) (failures : ℕ) (then : Option (List ℕ)) (wait : List ℕ) (fault : ReplayFault) (result : Result (Unit {0}) ReplayFault) → result ≡ Err fault
        → Advances failures (10 ∷ []) (holding mid held) after taken' waiting' then wait (Err fault) → Advances failures bytes script after taken waiting then wait result
    line_failed after failures then wait fault result is advances =
        subst (λ (r : Result (Unit {0}) ReplayFault). Advances failures bytes script after taken waiting then wait r) (sym is) (failed_by after failures then wait fault advances)

  pub held_no_more : (failures : ℕ) (after : Script) (result : Result (Unit {0}) ReplayFault) → result ≡ Err OutOfMemory → Advances failures bytes script after taken waiting taken' waiting' result
  held_no_more failures after result is =
      subst (λ (r : Result (Unit {0}) ReplayFault). Advances failures bytes script after taken waiting taken' waiting' r) (sym is)
      (λ read start at. subst (λ all. IsStopped all start taken' waiting') (all_read read) (stopped (read ++ before.done) left start taken' waiting' mid (before.so_far read start at)))

  -- what is left has no LF
  pub taken_all : (held : Held) → ((part : List ℕ) → Holds part mid.held → Holds (part ++ left) held)
      → (read : List ℕ) (start : Option (List ℕ)) → IsAt read start script taken waiting → IsAt (read ++ bytes) start (holding mid held) taken' waiting'
  taken_all held adds read start at =
      subst (λ all. IsAt all start (holding mid held) taken' waiting') (all_read read)
      (with_part (read ++ before.done) left start taken' waiting' mid held (before.so_far read start at) adds)

-- ---- what waits is written

module _ (read : List ℕ) (start : Option (List ℕ)) (script : Script) (taken taken' : Option (List ℕ)) (waiting : List ℕ) where
  at_written : IsAt read start script taken waiting → Appends taken taken' waiting → IsAt read start script taken' []
  at_written at all = record {
    lines = at.lines;
    part = at.part;
    text = at.text;
    now = at.now;
    read_is = at.read_is;
    answered = at.answered;
    holds = at.holds;
    ready = at.ready;
    written = waits_no_more start taken taken' at.text waiting at.written all;
  }

  stopped_written : IsStopped read start taken waiting → Appends taken taken' waiting → IsStopped read start taken' []
  stopped_written stop all = record {
    lines = stop.lines;
    rest = stop.rest;
    text = stop.text;
    last = stop.last;
    read_is = stop.read_is;
    answered = stop.answered;
    written = waits_no_more start taken taken' stop.text waiting stop.written all;
  }

  stopped_cut : (failures : ℕ) → IsStopped read start taken waiting → IsWrittenInPart failures taken taken' waiting → IsCutShort failures read start taken'
  stopped_cut failures stop part = record {
    lines = stop.lines;
    rest = stop.rest;
    text = stop.text;
    last = stop.last;
    told = stop.written.told ++ part.told;
    untold = part.untold;
    read_is = stop.read_is;
    answered = stop.answered;
    beginning = sym (append-nil stop.text) ∙ cut_is start taken stop.text waiting [] part.told part.untold stop.written (append-nil waiting ∙ part.beginning);
    written = cut_written failures start taken taken' stop.text waiting part.told stop.written part.written;
  }

  at_cut : (failures : ℕ) → IsAt read start script taken waiting → IsWrittenInPart failures taken taken' waiting → IsCutShort failures read start taken'
  at_cut failures at part =
      subst (λ all. IsCutShort failures all start taken') (append-nil read)
      (stopped_of (stopped read [] start taken waiting script at))
    where
      stopped_of : IsStopped (read ++ []) start taken waiting → IsCutShort failures (read ++ []) start taken'
      stopped_of stop = record {
        lines = stop.lines;
        rest = stop.rest;
        text = stop.text;
        last = stop.last;
        told = stop.written.told ++ part.told;
        untold = part.untold;
        read_is = stop.read_is;
        answered = stop.answered;
        beginning = sym (append-nil stop.text) ∙ cut_is start taken stop.text waiting [] part.told part.untold stop.written (append-nil waiting ∙ part.beginning);
        written = cut_written failures start taken taken' stop.text waiting part.told stop.written part.written;
      }

pub all_written : (bytes : List ℕ) (script script' : Script) (taken : Option (List ℕ)) (waiting : List ℕ) (mid after : OutputValue) (answered result : Result (Unit {0}) ReplayFault)
    → Advances mid.failures bytes script script' taken [] mid.taken waiting answered → WritesWaiting answered waiting mid after result
    → Advances after.failures bytes script script' taken [] after.taken [] result
all_written bytes script script' taken waiting mid after (Ok done) (Ok also) advances written = λ read start at.
    at_written (read ++ bytes) start script' mid.taken after.taken waiting (advances read start at) written.1
all_written bytes script script' taken waiting mid after (Ok done) (Err WriteFailed) advances written = λ read start at.
    at_cut (read ++ bytes) start script' mid.taken after.taken waiting after.failures (advances read start at) written
all_written bytes script script' taken waiting mid after (Ok done) (Err OutOfMemory) advances written = cc written.0
all_written bytes script script' taken waiting mid after (Ok done) (Err ReadFailed) advances written = cc written.0
all_written bytes script script' taken waiting mid after (Err OutOfMemory) (Ok also) advances written = cc written.0
all_written bytes script script' taken waiting mid after (Err OutOfMemory) (Err WriteFailed) advances written = λ read start at.
    stopped_cut (read ++ bytes) start script' mid.taken after.taken waiting after.failures (advances read start at) written
all_written bytes script script' taken waiting mid after (Err OutOfMemory) (Err OutOfMemory) advances written = λ read start at.
    stopped_written (read ++ bytes) start script' mid.taken after.taken waiting (advances read start at) written.1
all_written bytes script script' taken waiting mid after (Err OutOfMemory) (Err ReadFailed) advances written = cc written.0
all_written bytes script script' taken waiting mid after (Err WriteFailed) result advances written =
    subst (λ (r : Result (Unit {0}) ReplayFault). Advances after.failures bytes script script' taken [] after.taken [] r) (sym written.0)
    (subst (λ (value : OutputValue). Advances value.failures bytes script script' taken [] value.taken [] (Err WriteFailed)) (sym written.1) advances)
all_written bytes script script' taken waiting mid after (Err ReadFailed) result advances written = absurd advances

-- ---- the last request, whose end was not read

module _ (script : Script) (held : Held) (last : (part : List ℕ) → Holds part script.held → IsLastHeld part held.bytes.items) where
  pub ends_by_fault : (script' : Script) (taken : Option (List ℕ)) (waiting : List ℕ) (after : OutputValue) (fault : ReplayFault) (result : Result (Unit {0}) ReplayFault) → result ≡ Err fault
      → AnswersHeld after.failures (holding script held) script' taken [] after.taken waiting (Err fault) → Ends after.failures script taken after.taken result
  ends_by_fault script' taken waiting after fault result is answers =
      subst (λ (r : Result (Unit {0}) ReplayFault). Ends after.failures script taken after.taken r) (sym is) (by fault answers)
    where
      by : (fault : ReplayFault) → AnswersHeld after.failures (holding script held) script' taken [] after.taken waiting (Err fault) → Ends after.failures script taken after.taken (Err fault)
      by WriteFailed cut = λ read start at. cut_at_end after.failures read start taken after.taken script held.bytes.items at (last at.part at.holds) (cut at.now at.ready)
      by OutOfMemory kept = λ read start at.
          subst (λ known. IsStopped read start known []) (sym kept.0) (subst (λ all. IsStopped all start taken []) (append-nil read) (stopped read [] start taken [] script at))
      by ReadFailed never = never

  module _ (script' : Script) (taken : Option (List ℕ)) (waiting : List ℕ) (mid after : Option (List ℕ))
      (answers : (now : Standing) → IsReadyAt script now → IsReplied now held.bytes.items script' taken [] mid waiting) where
    pub ends_written : (failures : ℕ) → Appends mid after waiting → Ends failures script taken after (Ok tt)
    ends_written failures all = λ read start at. let replied = answers at.now at.ready in
        ended_in_request read start taken after script script' held.bytes.items at (last at.part at.holds) (record {
          reply = replied.reply;
          next = replied.next;
          replies = replied.replies;
          ready = replied.ready;
          written = waits_no_more taken mid after (replied.reply ++ 10 ∷ []) waiting replied.written all;
        })

    pub ends_cut : (failures : ℕ) → IsWrittenInPart failures mid after waiting → Ends failures script taken after (Err WriteFailed)
    ends_cut failures part = λ read start at. let replied = answers at.now at.ready in
        cut_at_end failures read start taken after script held.bytes.items at (last at.part at.holds) (record {
          reply = replied.reply;
          next = replied.next;
          told = replied.written.told ++ part.told;
          untold = part.untold;
          replies = replied.replies;
          beginning = replied.written.is ∙ (ap (λ rest. replied.written.told ++ rest) part.beginning ∙ sym (append_assoc replied.written.told part.told part.untold));
          written = cut_written failures taken mid after (replied.reply ++ 10 ∷ []) waiting part.told replied.written part.written;
        })
