-- A script that is replayed: the input gave its first bytes, and its lines so far are answered.
use Rattle.std.proofs.Common.{◌≡◌, ◌∙◌, ◌++◌, Err, List, None, Ok, Option, Result, Some, [], ap, append-nil, inl, inr, refl, subst, sym, take, ℕ}
use Rattle.std.proofs.KnownBytes.{Appends-nil, Consumes-nil, Consumes-trans}
use Rattle.std.specs.Prelude.{OnOk}
use Rattle.std.specs.Io.KnownBytes.{Consumes, IsAtEnd}
use Rattle.control.specs.declared.fault.ReplayFault.{ReplayFault}
use Rattle.control.specs.declared.fault.ReplayFault.TheVariants.{OutOfMemory, WriteFailed}
use Rattle.control.specs.declared.script.Script.{Script}
use Rattle.control.specs.body.Ready.{AreOutside}
use Rattle.control.specs.Replay.{AnsweredAllLines, AnsweredFirstLines, IsReplayed, WasRead, WroteBeginning}
use Rattle.control.specs.Script.{at_start, no_request}
use Rattle.control.specs.body.ScriptSoFar.{Advances, Ends, IsAt}
use Rattle.control.specs.Streams.{InputValue, KeepsOrForgets, OutputValue}
use Rattle.control.proofs.HeldLemmas.{begins_part}
use Rattle.control.proofs.WaitingLemmas.{told_all}

read_before_failure : (failures : ℕ) (before mid after : Option (List ℕ)) (read : List ℕ) → Consumes before mid read → KeepsOrForgets failures mid after → WasRead failures before after read
read_before_failure failures None mid after read one kept = tt
read_before_failure failures (Some a) None after read one kept = absurd one
read_before_failure failures (Some a) (Some b) None read one kept = kept
read_before_failure failures (Some a) (Some b) (Some c) read one kept = one ∙ ap (λ bytes. read ++ bytes) (sym kept)

-- so much was read, and its lines are answered; no device failed
pub record IsReplaying (input input' : InputValue) (output output' : OutputValue) (script : Script) : Type 0 where
  pub read : List ℕ
  pub was_read : Consumes input.coming input'.coming read
  pub so_far : IsAt read output.taken script output'.taken []
  pub outside : AreOutside script.switch.operator.table script.switch.workers.items
  pub input_healthy : input'.failures ≡ input.failures
  pub output_healthy : output'.failures ≡ output.failures

pub replaying_begins : (input : InputValue) (output : OutputValue) (script : Script) → IsAt [] output.taken script output.taken []
    → AreOutside script.switch.operator.table script.switch.workers.items → IsReplaying input input output output script
replaying_begins input output script at outside = record {
  read = [];
  was_read = Consumes-nil input.coming;
  so_far = at;
  outside = outside;
  input_healthy = refl;
  output_healthy = refl;
}

-- no memory for the switch
pub nothing_answered : (input : InputValue) (output : OutputValue) → AnsweredFirstLines input input output output
nothing_answered input output = record {
  lines = [];
  rest = [];
  text = [];
  last = at_start;
  read = Consumes-nil input.coming;
  answered = no_request;
  written = Appends-nil output.taken;
}

module _ (input mid : InputValue) (output now : OutputValue) (script : Script) (before : IsReplaying input mid output now script) where
  -- a read failed
  pub all_lines_answered : (after : InputValue) → KeepsOrForgets after.failures mid.coming after.coming → AnsweredAllLines input after output now
  all_lines_answered after kept = let at = before.so_far in record {
    lines = at.lines;
    part = at.part;
    text = at.text;
    last = at.now;
    read = read_before_failure after.failures input.coming mid.coming after.coming (at.lines ++ at.part) (subst (Consumes input.coming mid.coming) at.read_is before.was_read) kept;
    is_part = begins_part at.part script.held at.holds;
    answered = at.answered;
    written = told_all output.taken now.taken at.text at.written;
  }

  -- bytes came, and were taken
  module _ (after : InputValue) (bytes : List ℕ) (gave : Consumes mid.coming after.coming bytes) (healthy : after.failures ≡ mid.failures) where
    pub replaying_on : (script' : Script) (later : OutputValue) → Advances later.failures bytes script script' now.taken [] later.taken [] (Ok tt)
        → AreOutside script'.switch.operator.table script'.switch.workers.items → later.failures ≡ now.failures
        → IsReplaying input after output later script'
    replaying_on script' later advances outside same = record {
      read = before.read ++ bytes;
      was_read = Consumes-trans input.coming mid.coming after.coming before.read bytes before.was_read gave;
      so_far = advances before.read output.taken before.so_far;
      outside = outside;
      input_healthy = healthy ∙ before.input_healthy;
      output_healthy = same ∙ before.output_healthy;
    }

    pub cut_in_take : (script' : Script) (later : OutputValue) → Advances later.failures bytes script script' now.taken [] later.taken [] (Err WriteFailed) → WroteBeginning input after output later
    cut_in_take script' later advances = let cut = advances before.read output.taken before.so_far in record {
      lines = cut.lines;
      rest = cut.rest;
      text = cut.text;
      told = cut.told;
      untold = cut.untold;
      read = subst (Consumes input.coming after.coming) cut.read_is (Consumes-trans input.coming mid.coming after.coming before.read bytes before.was_read gave);
      is_text = inl (cut.last, cut.answered);
      beginning = cut.beginning;
      written = cut.written;
    }

    pub stopped_in_take : (script' : Script) (later : OutputValue) → Advances later.failures bytes script script' now.taken [] later.taken [] (Err OutOfMemory) → AnsweredFirstLines input after output later
    stopped_in_take script' later advances = let stop = advances before.read output.taken before.so_far in record {
      lines = stop.lines;
      rest = stop.rest;
      text = stop.text;
      last = stop.last;
      read = subst (Consumes input.coming after.coming) stop.read_is (Consumes-trans input.coming mid.coming after.coming before.read bytes before.was_read gave);
      answered = stop.answered;
      written = told_all output.taken later.taken stop.text stop.written;
    }

  -- the input came to its end
  module _ (after : InputValue) (gave : Consumes mid.coming after.coming []) (at_end : IsAtEnd after.coming) where
    all_read : Consumes input.coming after.coming before.read
    all_read = subst (Consumes input.coming after.coming) (append-nil before.read) (Consumes-trans input.coming mid.coming after.coming before.read [] before.was_read gave)

    pub replayed : (later : OutputValue) → Ends later.failures script now.taken later.taken (Ok tt) → IsReplayed input after output later
    replayed later ends = let whole = ends before.read output.taken before.so_far in record {
      script = before.read;
      text = whole.text;
      read = all_read;
      to_the_end = at_end;
      is_text = whole.is_text;
      written = whole.written;
    }

    pub cut_in_end : (later : OutputValue) → Ends later.failures script now.taken later.taken (Err WriteFailed) → WroteBeginning input after output later
    cut_in_end later ends = let cut = ends before.read output.taken before.so_far in record {
      lines = before.read;
      rest = [];
      text = cut.text;
      told = cut.told;
      untold = cut.untold;
      read = subst (Consumes input.coming after.coming) (sym (append-nil before.read)) all_read;
      is_text = inr (refl, at_end, cut.is_text);
      beginning = cut.beginning;
      written = cut.written;
    }

    pub stopped_in_end : (later : OutputValue) → Ends later.failures script now.taken later.taken (Err OutOfMemory) → AnsweredFirstLines input after output later
    stopped_in_end later ends = let stop = ends before.read output.taken before.so_far in record {
      lines = stop.lines;
      rest = stop.rest;
      text = stop.text;
      last = stop.last;
      read = subst (Consumes input.coming after.coming) stop.read_is all_read;
      answered = stop.answered;
      written = told_all output.taken later.taken stop.text stop.written;
    }

pub replayed_if : (input mid after : InputValue) (output now later : OutputValue) (script : Script) → IsReplaying input mid output now script → Consumes mid.coming after.coming [] → IsAtEnd after.coming
    → (result : Result (Unit {0}) ReplayFault) → Ends later.failures script now.taken later.taken result → OnOk result (IsReplayed input after output later)
replayed_if input mid after output now later script before gave at_end (Ok done) ends = replayed input mid output now script before after gave at_end later ends
replayed_if input mid after output now later script before gave at_end (Err fault) ends = tt

-- where a read gave nothing
pub gave_nothing : (before after : Option (List ℕ)) (size : ℕ) (buffer : List ℕ) → size ≡ 0 → Consumes before after (take size buffer) → Consumes before after []
gave_nothing before after size buffer none gave = subst (λ n. Consumes before after (take n buffer)) none gave
