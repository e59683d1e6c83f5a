-- The text of the first path's two lines, and what a failed write leaves of a text.
use Rattle.std.proofs.Common.{◌≡◌, ◌∙◌, ◌⊎◌, ◌++◌, Err, List, Ok, Option, Result, ap, codes, inl, inr, refl, slice_index_or, subst, sym, ℕ}
use Rattle.std.specs.Prelude.{IfErr}
use Rattle.std.specs.Fmt.{digits}
use Rattle.fault_code.specs.Code.{code_text}
use Rattle.fault_code.specs.declared.Code.{Code}
use Rattle.bpf_formats.specs.Code.{format_code}
use Rattle.bpf_formats.specs.declared.fault.FormatFault.{FormatFault}
use Rattle.control_line.specs.Reason.{reason_code}
use Rattle.control_line.specs.declared.reason.Reason.{Reason}
use Rattle.command_line.specs.CommandLine.{Request}
use Rattle.command_line.specs.Ending.{AppendsBeginning}
use Rattle.command_line.specs.declared.ending.Failure.{Failure}
use Rattle.command_line.specs.declared.ending.Failure.TheVariants.{OutOfMemory, WriteFailed}
use Rattle.command_line.specs.declared.ending.Status.{Status}
use Rattle.command_line.specs.declared.ending.Status.TheVariants as status
use Rattle.command_query.specs.Query.{IsAnswerText, IsMisformedBy, IsRefusalOf, IsResultOf, QueryWritesBefore}
use Rattle.command_query.specs.CommandResult.{answer_text}
use Rattle.command_query.specs.FirstPath.{first_lines, first_text}
use Rattle.command_query.specs.declared.command_result.CommandResult.{CommandResult}
use Rattle.command_query.specs.declared.command_result.CommandResult.TheVariants.{Versions}
use Rattle.command_query.specs.declared.first_path.Line.{Line}

abbrev pub none : Line
none = record { version = 0; value = 0; steps = 0; kept = 0 }

-- the answer of two lines
abbrev pub versions_of : List Line → CommandResult
versions_of lines = Versions (slice_index_or lines 0 none) (slice_index_or lines 1 none)

first_written : answer_text (versions_of first_lines) ≡ first_text
unfolding digits
first_written = refl

-- two lines that are those of `first`
pub first_text_of : (lines : List Line) → lines ≡ first_lines → answer_text (versions_of lines) ≡ first_text
first_text_of lines same = ap (λ xs. answer_text (versions_of xs)) same ∙ first_written

-- ---- a text that was written, or a beginning of it

module _ (request : Request) (known before after : Option (List ℕ)) (result : Result Status Failure) (failed : IfErr result (λ failure. (failure ≡ WriteFailed) ⊎ (failure ≡ OutOfMemory)))
    (memory : result ≡ Err OutOfMemory → after ≡ before) where
  text_failed : (ended : Status) (text : List ℕ) → IsAnswerText request known ended text → AppendsBeginning before after text
      → IfErr result (λ failure. QueryWritesBefore request failure known before after)
  text_failed ended text is begun = go result failed memory
    where
      go : (r : Result Status Failure) → IfErr r (λ failure. (failure ≡ WriteFailed) ⊎ (failure ≡ OutOfMemory)) → (r ≡ Err OutOfMemory → after ≡ before)
          → IfErr r (λ failure. QueryWritesBefore request failure known before after)
      go (Ok _) why kept = tt
      go (Err failure) (inl write) kept = subst (λ (f : Failure). QueryWritesBefore request f known before after) (sym write) (ended, text, is, begun)
      go (Err failure) (inr lack) kept =
          subst (λ (f : Failure). QueryWritesBefore request f known before after) (sym lack) (kept (ap (λ (f : Failure). Err f) lack))

  pub answer_failed : (found : CommandResult) → IsResultOf request known found → AppendsBeginning before after (answer_text found)
      → IfErr result (λ failure. QueryWritesBefore request failure known before after)
  answer_failed found is begun = text_failed status.Done (answer_text found) (found, is, refl) begun

  pub refusal_failed : (code : Code) (reason : Reason) → IsRefusalOf request known reason → code ≡ reason_code reason → AppendsBeginning before after ((codes "refused " ++ code_text code) ++ codes "\n")
      → IfErr result (λ failure. QueryWritesBefore request failure known before after)
  refusal_failed code reason is same begun =
      text_failed status.Refused ((codes "refused " ++ code_text (reason_code reason)) ++ codes "\n") (inl (reason, is, refl))
      (subst (λ c. AppendsBeginning before after ((codes "refused " ++ code_text c) ++ codes "\n")) same begun)

  pub misformed_failed : (code : Code) (fault : FormatFault) → IsMisformedBy request known fault → code ≡ format_code fault
      → AppendsBeginning before after ((codes "refused " ++ code_text code) ++ codes "\n")
      → IfErr result (λ failure. QueryWritesBefore request failure known before after)
  misformed_failed code fault is same begun =
      text_failed status.Refused ((codes "refused " ++ code_text (format_code fault)) ++ codes "\n") (inr (fault, is, refl))
      (subst (λ c. AppendsBeginning before after ((codes "refused " ++ code_text c) ++ codes "\n")) same begun)
