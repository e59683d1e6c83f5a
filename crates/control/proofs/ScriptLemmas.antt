-- A script that is read piece by piece: what each piece adds to what was read, answered and written.
use Rattle.std.proofs.Common.{◌≡◌, ◌∙◌, ◌++◌, ◌∷◌, List, Option, [], ap, append_assoc, append-nil, refl, subst, sym, true, ℕ}
use Rattle.control.specs.declared.held.Held.{Held}
use Rattle.control.specs.declared.script.Script.{Script}
use Rattle.control.specs.body.Held.{Holds, HoldsAfterLine, IsLastHeld}
use Rattle.control.specs.Script.{AreAnswered, IsScriptText, RepliesTo, Standing, at_start, no_request, of_nothing, of_requests, one_more, with_last_lf}
use Rattle.control.specs.body.ScriptSoFar.{IsAt, IsCutAtEnd, IsCutShort, IsReadyAt, IsReplied, IsReplyCut, IsStopped, IsWritten}
use Rattle.control.proofs.EndLemmas.{lf_in_part, lf_there}
use Rattle.control.proofs.HeldLemmas.{no_part, replies_to_whole}
use Rattle.control.proofs.RequestLemmas.{begins}
use Rattle.control.proofs.WaitingLemmas.{cut_is, cut_written, told_all, waits_more, waits_none}

pub opened : (start : Option (List ℕ)) (script : Script) → Holds [] script.held → IsReadyAt script at_start → IsAt [] start script start []
opened start script holds ready = record {
  lines = [];
  part = [];
  text = [];
  now = at_start;
  read_is = refl;
  answered = no_request;
  holds = holds;
  ready = ready;
  written = waits_none start;
}

-- the script with another part of the request at hand
abbrev pub holding : Script → Held → Script
holding script held = record { switch = script.switch; held = held }

-- bytes that do not end the request
pub with_part : (read bytes : List ℕ) (start taken : Option (List ℕ)) (waiting : List ℕ) (script : Script) (held : Held) → IsAt read start script taken waiting
    → ((part : List ℕ) → Holds part script.held → Holds (part ++ bytes) held) → IsAt (read ++ bytes) start (holding script held) taken waiting
with_part read bytes start taken waiting script held at adds = record {
  lines = at.lines;
  part = at.part ++ bytes;
  text = at.text;
  now = at.now;
  read_is = ap (λ front. front ++ bytes) at.read_is ∙ append_assoc at.lines at.part bytes;
  answered = at.answered;
  holds = adds at.part at.holds;
  ready = at.ready;
  written = at.written;
}

-- an LF ends it, and it is answered
pub with_request : (read : List ℕ) (start taken taken' : Option (List ℕ)) (waiting waiting' : List ℕ) (script : Script) (held : Held) (script' : Script) → (at : IsAt read start script taken waiting)
    → HoldsAfterLine true at.part held → Holds [] script'.held → IsReplied at.now held.bytes.items script' taken waiting taken' waiting'
    → IsAt (read ++ 10 ∷ []) start script' taken' waiting'
with_request read start taken taken' waiting waiting' script held script' at ends none replied = record {
  lines = at.lines ++ (at.part ++ 10 ∷ []);
  part = [];
  text = at.text ++ (replied.reply ++ 10 ∷ []);
  now = replied.next;
  read_is = ap (λ front. front ++ 10 ∷ []) at.read_is ∙ (append_assoc at.lines at.part (10 ∷ []) ∙ sym (append-nil (at.lines ++ (at.part ++ 10 ∷ []))));
  answered = one_more at.lines at.text at.part replied.reply at.now replied.next at.answered ends.0
      (replies_to_whole at.now held.bytes.items at.part replied.reply replied.next ends.1 replied.replies);
  holds = none;
  ready = replied.ready;
  written = waits_more start taken taken' at.text waiting waiting' (replied.reply ++ 10 ∷ []) at.written replied.written;
}

-- its reply is cut, or what waits before it
pub with_request_cut : (failures : ℕ) (read : List ℕ) (start taken taken' : Option (List ℕ)) (waiting : List ℕ) (script : Script) (held : Held) → (at : IsAt read start script taken waiting)
    → HoldsAfterLine true at.part held → IsReplyCut failures at.now held.bytes.items taken waiting taken' → IsCutShort failures (read ++ 10 ∷ []) start taken'
with_request_cut failures read start taken taken' waiting script held at ends cut = record {
  lines = at.lines ++ (at.part ++ 10 ∷ []);
  rest = [];
  text = at.text ++ (cut.reply ++ 10 ∷ []);
  last = cut.next;
  told = at.written.told ++ cut.told;
  untold = cut.untold;
  read_is = ap (λ front. front ++ 10 ∷ []) at.read_is ∙ (append_assoc at.lines at.part (10 ∷ []) ∙ sym (append-nil (at.lines ++ (at.part ++ 10 ∷ []))));
  answered = one_more at.lines at.text at.part cut.reply at.now cut.next at.answered ends.0
      (replies_to_whole at.now held.bytes.items at.part cut.reply cut.next ends.1 cut.replies);
  beginning = cut_is start taken at.text waiting (cut.reply ++ 10 ∷ []) cut.told cut.untold at.written cut.beginning;
  written = cut_written failures start taken taken' at.text waiting cut.told at.written cut.written;
}

-- or memory is refused
pub stopped : (read bytes : List ℕ) (start taken : Option (List ℕ)) (waiting : List ℕ) (script : Script) → IsAt read start script taken waiting → IsStopped (read ++ bytes) start taken waiting
stopped read bytes start taken waiting script at = record {
  lines = at.lines;
  rest = at.part ++ bytes;
  text = at.text;
  last = at.now;
  read_is = ap (λ front. front ++ bytes) at.read_is ∙ append_assoc at.lines at.part bytes;
  answered = at.answered;
  written = at.written;
}

-- more may have been read
pub stopped_before : (read more : List ℕ) (start taken : Option (List ℕ)) (waiting : List ℕ) → IsStopped read start taken waiting → IsStopped (read ++ more) start taken waiting
stopped_before read more start taken waiting stop = record {
  lines = stop.lines;
  rest = stop.rest ++ more;
  text = stop.text;
  last = stop.last;
  read_is = ap (λ front. front ++ more) stop.read_is ∙ append_assoc stop.lines stop.rest more;
  answered = stop.answered;
  written = stop.written;
}

pub cut_before : (failures : ℕ) (read more : List ℕ) (start taken : Option (List ℕ)) → IsCutShort failures read start taken → IsCutShort failures (read ++ more) start taken
cut_before failures read more start taken cut = record {
  lines = cut.lines;
  rest = cut.rest ++ more;
  text = cut.text;
  last = cut.last;
  told = cut.told;
  untold = cut.untold;
  read_is = ap (λ front. front ++ more) cut.read_is ∙ append_assoc cut.lines cut.rest more;
  answered = cut.answered;
  beginning = cut.beginning;
  written = cut.written;
}

-- ---- the end

-- each request has ended
text_of_answered : (requests text : List ℕ) (last : Standing) → AreAnswered requests text last → IsScriptText requests text
text_of_answered _ _ _ no_request = of_nothing refl
text_of_answered _ _ _ (one_more requests text request reply now next answered is replies) =
    of_requests requests text request reply now next answered (begins request is)
    (ap with_last_lf (sym (append_assoc requests request (10 ∷ []))) ∙ (lf_there (requests ++ request) ∙ append_assoc requests request (10 ∷ []))) replies

pub ended : (read : List ℕ) (start taken : Option (List ℕ)) (script : Script) → IsAt read start script taken [] → script.held.bytes.items ≡ [] → IsWritten read start taken
ended read start taken script at none =
    let part_is = no_part at.part script.held at.holds none in
    let whole : at.lines ≡ read = sym (at.read_is ∙ (ap (λ part. at.lines ++ part) part_is ∙ append-nil at.lines)) in
    record { text = at.text; is_text = subst (λ lines. IsScriptText lines at.text) whole (text_of_answered at.lines at.text at.now at.answered); written = told_all start taken at.text at.written }

-- the last request has no LF, or lacks lines
last_request : (read : List ℕ) (start taken : Option (List ℕ)) (script : Script) (bytes : List ℕ) → (at : IsAt read start script taken []) → IsLastHeld at.part bytes
    → (reply : List ℕ) (next : Standing) → RepliesTo at.now bytes reply next → IsScriptText read (at.text ++ (reply ++ 10 ∷ []))
last_request read start taken script bytes at last reply next replies =
    of_requests at.lines at.text last.request reply at.now next at.answered last.begins (ap with_last_lf at.read_is ∙ lf_in_part at.lines at.part last.request last.whole)
    (replies_to_whole at.now bytes last.request reply next last.shows replies)

pub ended_in_request : (read : List ℕ) (start taken taken' : Option (List ℕ)) (script script' : Script) (bytes : List ℕ) → (at : IsAt read start script taken []) → IsLastHeld at.part bytes
    → IsReplied at.now bytes script' taken [] taken' [] → IsWritten read start taken'
ended_in_request read start taken taken' script script' bytes at last replied = record {
  text = at.text ++ (replied.reply ++ 10 ∷ []);
  is_text = last_request read start taken script bytes at last replied.reply replied.next replied.replies;
  written = told_all start taken' (at.text ++ (replied.reply ++ 10 ∷ [])) (waits_more start taken taken' at.text [] [] (replied.reply ++ 10 ∷ []) at.written replied.written);
}

pub cut_at_end : (failures : ℕ) (read : List ℕ) (start taken taken' : Option (List ℕ)) (script : Script) (bytes : List ℕ) → (at : IsAt read start script taken []) → IsLastHeld at.part bytes
    → IsReplyCut failures at.now bytes taken [] taken' → IsCutAtEnd failures read start taken'
cut_at_end failures read start taken taken' script bytes at last cut = record {
  text = at.text ++ (cut.reply ++ 10 ∷ []);
  told = at.written.told ++ cut.told;
  untold = cut.untold;
  is_text = last_request read start taken script bytes at last cut.reply cut.next cut.replies;
  beginning = cut_is start taken at.text [] (cut.reply ++ 10 ∷ []) cut.told cut.untold at.written cut.beginning;
  written = cut_written failures start taken taken' at.text [] cut.told at.written cut.written;
}
