-- What a command makes of its arguments, where it looks at no more than these.
use Rattle.std.proofs.Common.{◌≡◌, ◌∙◌, ◌<◌, ◌^◌, ◌++◌, ◌⊎◌, ap, ap₂, ℕ, Err, IsSome, IsSomeAnd, List, MatchOption, [], None, Ok, Option, Result, Some, codes, inl, inr, refl, subst, sym, unwrap_or}
use Rattle.std.specs.Prelude.{IfOk, OnOk}
use Rattle.std.specs.Io.KnownBytes.{Appends}
use Rattle.std.proofs.lemmas.List.Elements.{All-from_get_or}
use Rattle.hex.proofs.HexLemmas.{decode_of-ok}
use Rattle.control_line.specs.Request.{spaced}
use Rattle.control_line.specs.Packet.{IsRefusalOfHex, SpellsPacket}
use Rattle.control_line.specs.Reason.{IsRefusalOfExpression}
use Rattle.control_line.specs.declared.reason.Reason.{Reason}
use Rattle.control_line.specs.declared.reason.Reason.TheVariants.{BadForm}
use Rattle.filter_compile.specs.Answer.{IsPacket}
use Rattle.command_query.specs.declared.command_result.CommandResult.{CommandResult}
use Rattle.command_line.specs.declared.ending.Failure.{Failure}
use Rattle.command_line.specs.declared.ending.Failure.TheVariants.{OutOfMemory, ReadFailed}
use Rattle.command_query.specs.declared.stop.Stop.{Stop}
use Rattle.command_query.specs.declared.stop.Stop.TheVariants.{Failed, Misformed, Refused}
use Rattle.command_query.specs.CommandResult.{IsCheckAnswer, IsExplainAnswer, IsJudgeAnswer, IsRunAnswer, IsSpreadAnswer}
use Rattle.command_line.specs.declared.ending.Status.{Status}
use Rattle.command_line.specs.declared.ending.Status.TheVariants as status
use Rattle.fault_code.specs.Code.{code_text}
use Rattle.fault_code.specs.declared.Code.{Code}
use Rattle.bpf_formats.specs.Code.{format_code}
use Rattle.bpf_formats.specs.declared.fault.FormatFault.{FormatFault}
use Rattle.command_query.specs.Format.{IsFormatFault, IsRefusalOfProgram, input_format_of, misformed_text}
use Rattle.command_query.specs.declared.format.InputFormat.{InputFormat}
use Rattle.command_line.specs.CommandLine.{Request, check, compile, explain, first, judge, pack, run, spread}
use Rattle.command_query.specs.FirstPath.{first_lines}
use Rattle.selector_buckets.specs.declared.hash.HashBy.{HashBy}
use Rattle.selector_buckets.specs.declared.share.Share.{Share}
use Rattle.selector_buckets.specs.Buckets.{BucketsValue}
use Rattle.selector_buckets.specs.Shares.{ids_of, weights_of}
use Rattle.selector_buckets.specs.Turns.{table_of}
use Rattle.selector_buckets.specs.Words.{selector_words}
use Rattle.bpf_asm.specs.Text.{printed}
use Rattle.command_query.specs.declared.first_path.Line.{Line}
use Rattle.command_query.proofs.WriteLemmas.{first_text_of, versions_of}
use Rattle.command_line.specs.Input.{IsInput}
use Rattle.command_query.specs.body.Stop.{IsStopBy, IsStopByProgram}
use Rattle.command_query.specs.Packing.{IsPackAnswer, IsRefusalOfPack}
use Rattle.command_query.specs.Query.{IsFailureOf, IsMisformedBy, IsRefusalOfCode, IsRefusalReason, IsResult, IsResultOf, IsStopOf, ReadsInput, WritesAnswer}

-- the bytes that digits write are a packet
pub packet_of_spelt : (digits packet : List ℕ) → SpellsPacket digits packet → IsPacket packet
packet_of_spelt digits packet spelt = record {
  bytes = All-from_get_or (λ byte. byte < 2 ^ 8) packet 0 (λ k inside. (decode_of-ok digits packet spelt.spells).3 k);
  not_too_long = spelt.not_too_long;
}

-- the line that names the fault's code is the command's
pub misformed_written : (request : Request) (known : Option (List ℕ)) (result : Result Status Failure) (before after : Option (List ℕ)) (code : Code) (fault : FormatFault)
    → IsMisformedBy request known fault → code ≡ format_code fault → IfOk result (λ s. s ≡ status.Refused)
    → OnOk result (Appends before after ((codes "refused " ++ code_text code) ++ codes "\n")) → IfOk result (λ s. WritesAnswer request known s before after)
misformed_written request known (Ok status) before after code fault is same refused written =
    subst (λ s. WritesAnswer request known s before after) (sym refused)
    (misformed_text fault ++ codes "\n", inr (fault, is, refl), subst (λ c. Appends before after ((codes "refused " ++ code_text c) ++ codes "\n")) same written)
misformed_written request known (Err failure) before after code fault is same refused written = tt

-- the listing of a selector is that of the table that was asked for
pub spread_listed : (depth : ℕ) (by : HashBy) (shares : List Share) (buckets : BucketsValue) (words listing : List ℕ) → buckets.depth ≡ depth
    → buckets.members ≡ table_of (ids_of shares) (weights_of shares) (2 ^ depth) → words ≡ selector_words by buckets → listing ≡ printed words
    → listing ≡ printed (selector_words by (record { depth = depth; members = table_of (ids_of shares) (weights_of shares) (2 ^ depth) }))
spread_listed depth by shares buckets words listing depth_is members_are words_are is =
    is ∙ ap printed (words_are ∙ ap₂ (λ (d : ℕ) (members : List ℕ). selector_words by (record { depth = d; members = members })) depth_is members_are)

-- a stop by one refusal is one by another that follows
pub stopped_alike : (refuses others : Reason → Type 0) (stop : Stop) → ((reason : Reason) → refuses reason → others reason) → IsStopBy refuses stop → IsStopBy others stop
stopped_alike refuses others (Refused reason) follows stops = follows reason stops
stopped_alike refuses others (Misformed fault) follows stops = stops
stopped_alike refuses others (Failed failure) follows stops = stops

module _ (known : Option (List ℕ)) where
  -- an input that is not read has some bytes
  some_input : List ℕ
  some_input = unwrap_or known []

  is_input : IsInput known some_input
  unfolding some_input
  is_input = go known
    where
      go : (known : Option (List ℕ)) → IsInput known (unwrap_or known [])
      go None = tt
      go (Some bytes) = refl

  no_memory_fails : (request : Request) (failure : Failure) → failure ≡ OutOfMemory → IsFailureOf request failure
  no_memory_fails request failure is = subst (IsFailureOf request) (sym is) tt

  stops_before : (request : Request) (refuses : Reason → Type 0) (stop : Stop)
      → ((reason : Reason) → refuses reason → IsRefusalReason request some_input reason) → IsStopBy refuses stop → IsStopOf request known stop
  stops_before request refuses (Refused reason) why stops = (some_input, is_input, why reason stops)
  stops_before request refuses (Misformed fault) why stops = absurd stops
  stops_before request refuses (Failed failure) why stops = no_memory_fails request failure stops

  pub run_stops_by_hex : (digits name : List ℕ) (stop : Stop) → IsStopBy (IsRefusalOfHex digits) stop → IsStopOf (run digits name) known stop
  run_stops_by_hex digits name stop = stops_before (run digits name) (IsRefusalOfHex digits) stop (λ reason why. inl why)

  pub judge_stops_by_hex : (digits expression : List ℕ) (stop : Stop) → IsStopBy (IsRefusalOfHex digits) stop
      → IsStopOf (judge digits expression) known stop
  judge_stops_by_hex digits expression stop =
      stops_before (judge digits expression) (IsRefusalOfHex digits) stop (λ reason why. inl why)

  pub compile_stops : (expression name : List ℕ) (stop : Stop) → IsStopBy (IsRefusalReason (compile expression name) []) stop
      → IsStopOf (compile expression name) known stop
  compile_stops expression name stop =
      stops_before (compile expression name) (IsRefusalReason (compile expression name) []) stop (λ reason why. why)

  pub explain_stops : (words : List (List ℕ)) (stop : Stop) → IsStopBy (IsRefusalOfCode (spaced words)) stop → IsStopOf (explain words) known stop
  explain_stops words stop = stops_before (explain words) (IsRefusalOfCode (spaced words)) stop (λ reason why. why)

  pub pack_stops : (source destination : List ℕ) (digits text : Option (List ℕ)) (stop : Stop)
      → IsStopBy (IsRefusalOfPack source destination digits text) stop → IsStopOf (pack source destination digits text) known stop
  pack_stops source destination digits text stop =
      stops_before (pack source destination digits text) (IsRefusalOfPack source destination digits text) stop (λ reason why. why)

  pub spread_stops : (depth : ℕ) (by : HashBy) (shares : List Share) (stop : Stop) → IsStopBy (λ reason. ⊥) stop → IsStopOf (spread depth by shares) known stop
  spread_stops depth by shares stop = stops_before (spread depth by shares) (λ reason. ⊥) stop (λ reason why. why)

  pub judge_stops : (digits expression packet : List ℕ) (stop : Stop) → SpellsPacket digits packet
      → IsStopBy (IsRefusalOfExpression expression) stop → IsStopOf (judge digits expression) known stop
  judge_stops digits expression packet stop spelt =
      stops_before (judge digits expression) (IsRefusalOfExpression expression) stop (λ reason why. inr (packet, spelt, why))

  pub compile_found : (expression name : List ℕ) (answer : CommandResult) → IsResult (compile expression name) [] answer
      → IsResultOf (compile expression name) known answer
  compile_found expression name answer found = (some_input, is_input, found)

  pub explain_found : (words : List (List ℕ)) (answer : CommandResult) → IsExplainAnswer (spaced words) answer → IsResultOf (explain words) known answer
  explain_found words answer found = (some_input, is_input, found)

  pub pack_found : (source destination : List ℕ) (digits text : Option (List ℕ)) (answer : CommandResult)
      → IsPackAnswer source destination digits text answer → IsResultOf (pack source destination digits text) known answer
  pack_found source destination digits text answer found = (some_input, is_input, found)

  pub spread_found : (depth : ℕ) (by : HashBy) (shares : List Share) (answer : CommandResult) → IsSpreadAnswer depth by shares answer
      → IsResultOf (spread depth by shares) known answer
  spread_found depth by shares answer found = (some_input, is_input, found)

  pub judge_found : (digits expression packet : List ℕ) (answer : CommandResult) → SpellsPacket digits packet
      → IsJudgeAnswer packet expression answer → IsResultOf (judge digits expression) known answer
  judge_found digits expression packet answer spelt found = (some_input, is_input, (packet, spelt, found))

  -- ---- programs in a format

  pub check_found : (name text : List ℕ) (format : InputFormat) (answer : CommandResult) → input_format_of name ≡ Some format
      → IsInput known text → IsCheckAnswer format text answer → IsResultOf (check name) known answer
  check_found name text format answer named is found =
      (text, is, subst (λ it. IsSomeAnd it (λ f. IsCheckAnswer f text answer)) (sym named) found)

  pub run_found : (digits name packet text : List ℕ) (format : InputFormat) (answer : CommandResult) → SpellsPacket digits packet
      → input_format_of name ≡ Some format → IsInput known text → IsRunAnswer packet format text answer → IsResultOf (run digits name) known answer
  run_found digits name packet text format answer spelt named is found =
      (text, is, (packet, spelt, subst (λ it. IsSomeAnd it (λ f. IsRunAnswer packet f text answer)) (sym named) found))

  -- a name that is no format's
  pub check_unnamed : (name : List ℕ) → input_format_of name ≡ None → IsStopOf (check name) known (Refused BadForm)
  check_unnamed name unnamed =
      (some_input, is_input, subst (λ it. MatchOption it (◌≡◌ {A = Reason} BadForm BadForm) (λ f. IsRefusalOfProgram f some_input BadForm)) (sym unnamed) refl)

  pub run_unnamed : (digits name packet : List ℕ) → SpellsPacket digits packet → input_format_of name ≡ None
      → IsStopOf (run digits name) known (Refused BadForm)
  run_unnamed digits name packet spelt unnamed =
      (some_input, is_input, inr (packet, spelt, subst (λ it. MatchOption it (◌≡◌ {A = Reason} BadForm BadForm) (λ f. IsRefusalOfProgram f some_input BadForm)) (sym unnamed) refl))

  -- a text that is no program in its format
  pub check_stops : (name text : List ℕ) (format : InputFormat) (stop : Stop) → input_format_of name ≡ Some format → IsInput known text
      → IsStopByProgram format text stop → IsStopOf (check name) known stop
  check_stops name text format (Refused reason) named is stops =
      (text, is, subst (λ it. MatchOption it (reason ≡ BadForm) (λ f. IsRefusalOfProgram f text reason)) (sym named) stops)
  check_stops name text format (Misformed fault) named is stops =
      (text, is, subst (λ it. IsSomeAnd it (λ f. IsFormatFault f text fault)) (sym named) stops)
  check_stops name text format (Failed failure) named is stops = no_memory_fails (check name) failure stops

  pub run_stops : (digits name packet text : List ℕ) (format : InputFormat) (stop : Stop) → SpellsPacket digits packet
      → input_format_of name ≡ Some format → IsInput known text → IsStopByProgram format text stop → IsStopOf (run digits name) known stop
  run_stops digits name packet text format (Refused reason) spelt named is stops =
      (text, is, inr (packet, spelt, subst (λ it. MatchOption it (reason ≡ BadForm) (λ f. IsRefusalOfProgram f text reason)) (sym named) stops))
  run_stops digits name packet text format (Misformed fault) spelt named is stops =
      (text, is, (packet, spelt, subst (λ it. IsSomeAnd it (λ f. IsFormatFault f text fault)) (sym named) stops))
  run_stops digits name packet text format (Failed failure) spelt named is stops = no_memory_fails (run digits name) failure stops

  -- an input that is not read whole
  pub unread : (request : Request) (failure : Failure) → ReadsInput request → (failure ≡ ReadFailed) ⊎ (failure ≡ OutOfMemory)
      → IsStopOf request known (Failed failure)
  unread request failure reads (inl is) = subst (IsFailureOf request) (sym is) reads
  unread request failure reads (inr is) = no_memory_fails request failure is

  pub reads_check : (name : List ℕ) (format : InputFormat) → input_format_of name ≡ Some format → ReadsInput (check name)
  reads_check name format named = subst (λ it. IsSome it) (sym named) refl

  pub reads_run : (digits name packet : List ℕ) (format : InputFormat) → SpellsPacket digits packet → input_format_of name ≡ Some format
      → ReadsInput (run digits name)
  reads_run digits name packet format spelt named = (packet, spelt, subst (λ it. IsSome it) (sym named) refl)

  pub result_of_first : (lines : List Line) → lines ≡ first_lines → IsResultOf first known (versions_of lines)
  result_of_first lines same = (some_input, is_input, first_text_of lines same)
