-- How `serve` ends if it has no configuration, or fails.
use Rattle.std.proofs.Common.{◌≡◌, ◌≢◌, ◌∙◌, ◌⊎◌, Err, List, None, Option, Some, ap, codes, inl, inr, refl, subst, sym, ℕ}
use Rattle.clap.specs.Words.{Text}
use Rattle.config_image.specs.Image.{Group}
use Rattle.command_line.specs.ControlAddress.{IsNoControlAddress}
use Rattle.command_line.specs.Ending.{AppendsBeginning, line_of}
use Rattle.command_line.specs.declared.ending.Failure.{Failure}
use Rattle.command_line.specs.declared.ending.Failure.TheVariants.{BindFailed, NoAnswer, OutOfMemory, PollFailed, ReadFailed, RulesChanged, SpawnFailed, WriteFailed}
use Rattle.command_line.specs.declared.ending.Status.{Status}
use Rattle.command_line.specs.declared.ending.Status.TheVariants.{Done, Failed, Misused, Refused}
use Rattle.command_streams.specs.Endings.{CountsFailure, EndsByCause, EndsByOneCause}
use Rattle.command_streams.specs.Failures.{FailuresValue, HasCause}
use Rattle.command_streams.proofs.OutputLemmas.{once_borrow}
use Rattle.command_operating.specs.Files.{KnownFiles}
use Rattle.command_operating.specs.Measured.{EndsByCauseOrTable}
use Rattle.command_operating.specs.Opening.{EndsUnopened, FailsOpening, FailsUnread, IsOpening, RefusesOpening, RefusesRules}
use Rattle.command_operating.proofs.CauseLemmas.{once_as}
use Rattle.command_operating.proofs.PrintingLemmas.{begins_as, begins_text}
use Rattle.command_waiting.specs.Serving.{EndsServing, FailsServing, told_alone}
use Rattle.command_waiting.specs.Waiting.{EndsInServeFailure, IsAddress, IsControl, IsNoAddress, RefusesService, ServeFails, no_address, no_rules, refusal_begun, service_begun}

-- ---- `serve`

abbrev IsUnreadCause : Failure → Type 0
IsUnreadCause failure = (failure ≡ ReadFailed) ⊎ ((failure ≡ OutOfMemory) ⊎ (failure ≡ WriteFailed))

no_silence_unread : (failure : Failure) → IsUnreadCause failure → failure ≡ NoAnswer → ⊥
no_silence_unread failure (inl is) same = cc
no_silence_unread failure (inr (inl is)) same = cc
no_silence_unread failure (inr (inr is)) same = cc

no_rules_unread : (failure : Failure) → IsUnreadCause failure → failure ≡ RulesChanged → ⊥
no_rules_unread failure (inl is) same = cc
no_rules_unread failure (inr (inl is)) same = cc
no_rules_unread failure (inr (inr is)) same = cc

no_bind_unread : (failure : Failure) → IsUnreadCause failure → failure ≡ BindFailed → ⊥
no_bind_unread failure (inl is) same = cc
no_bind_unread failure (inr (inl is)) same = cc
no_bind_unread failure (inr (inr is)) same = cc

no_write_unread : (failure : Failure) → failure ≡ ReadFailed → failure ≡ WriteFailed → ⊥
no_write_unread failure is same = cc

-- a failure that is not that of a read
counted : (failure : Failure) (read read' : ℕ) (written written' : FailuresValue) → failure ≢ ReadFailed → read' ≡ read → CountsFailure failure written written'
    → HasCause {A = Status} (Err failure) read read' written written'
counted ReadFailed read read' written written' other kept counts = absurd (other refl)
counted WriteFailed read read' written written' other kept counts = (kept, counts)
counted OutOfMemory read read' written written' other kept counts = (kept, counts)
counted SpawnFailed read read' written written' other kept counts = (kept, counts)
counted BindFailed read read' written written' other kept counts = (kept, counts)
counted PollFailed read read' written written' other kept counts = (kept, counts)
counted NoAnswer read read' written written' other kept counts = (kept, counts)
counted RulesChanged read read' written written' other kept counts = (kept, counts)

module _ (files : KnownFiles) (front control : Text) (workers : ℕ) (file : Option Text) (before after told_before told_after : Option (List ℕ))
    (is_front : IsAddress front) (is_control : IsControl control) where
  refusal_of : (name : Text) → file ≡ Some name → (whole : Option (List ℕ)) → RefusesRules (files name) before whole → RefusesService files front control file before whole
  refusal_of name is whole refuses = no_rules is_front is_control (subst (λ (f : Option Text). RefusesOpening files f before whole) (sym is) refuses)

  of_file : (name : Text) → file ≡ Some name → (failure : Failure) → FailsUnread (files name) before after told_before told_after failure
      → ServeFails files front control workers file before after told_before told_after failure
  of_file name is failure unread = record {
    no_read = λ none. absurd (not_none none);
    no_silence = no_silence_unread failure unread.cause;
    no_rules_read = no_rules_unread failure unread.cause;
    written = λ other. inl (unread.unwritten other);
    begun = λ again. refusal_begun
        (begins_as (RefusesRules (files name)) (RefusesService files front control file) before after (refusal_of name is) (unread.begun again));
    not_bound = λ bound. absurd (no_bind_unread failure unread.cause bound);
    not_read = λ read. unread.unwritten (no_write_unread failure read);
    are_addresses = λ other more. (is_front, is_control);
    told = told_alone unread.told;
  }
    where
      not_none : file ≡ None → ⊥
      not_none none = let same = sym is ∙ none in cc

  by_file : (given : Option Text) → file ≡ given → (failure : Failure) → FailsOpening files given before after told_before told_after failure
      → ServeFails files front control workers file before after told_before told_after failure
  by_file None is failure fails = absurd fails
  by_file (Some name) is failure fails = of_file name is failure fails

  -- there is no configuration to begin with
  pub fail_unread : (failure : Failure) → FailsOpening files file before after told_before told_after failure
      → ServeFails files front control workers file before after told_before told_after failure
  fail_unread = by_file file refl

  pub fails_unread : EndsUnopened files file before after told_before told_after
      → EndsInServeFailure files front control workers file before after told_before told_after
  fails_unread (failure, unread) = (failure, fail_unread failure unread)

  -- or the switch ends with a failure
  pub fail_serving : (config : List Group) → IsOpening files file config → (failure : Failure)
      → FailsServing config workers before after told_before told_after failure
      → ServeFails files front control workers file before after told_before told_after failure
  fail_serving config opening failure fails = record {
    no_read = λ none. fails.of_serve.0;
    no_silence = fails.of_serve.1;
    no_rules_read = fails.of_serve.2;
    written = fails.written;
    begun = λ is. service_begun is_front is_control config opening (fails.begun is);
    not_bound = fails.not_bound;
    not_read = λ is. absurd (fails.of_serve.0 is);
    are_addresses = λ other more. (is_front, is_control);
    told = fails.told;
  }

  pub fails_serving : (config : List Group) → IsOpening files file config → EndsServing config workers before after told_before told_after
      → EndsInServeFailure files front control workers file before after told_before told_after
  fails_serving config opening (failure, fails) = (failure, fail_serving config opening failure fails)

  -- no configuration
  pub ends_unread : (read read' : ℕ) (written written' : FailuresValue) (status : Status)
      → EndsByOneCause (FailsOpening files file before after told_before told_after) status read read' written written'
      → EndsByOneCause (ServeFails files front control workers file before after told_before told_after) status read read' written written'
  ends_unread read read' written written' status ends =
      once_as (FailsOpening files file before after told_before told_after) (ServeFails files front control workers file before after told_before told_after)
      read read' written written' status fail_unread ends

  -- the switch reads no file
  pub ends_serving : (config : List Group) → IsOpening files file config → (read read' : ℕ) (written written' : FailuresValue) (status : Status) → read' ≡ read
      → EndsByCause (FailsServing config workers before after told_before told_after) status written written'
      → EndsByOneCause (ServeFails files front control workers file before after told_before told_after) status read read' written written'
  ends_serving config opening read read' written written' Done kept ends = (kept, ends)
  ends_serving config opening read read' written written' Refused kept ends = (kept, ends)
  ends_serving config opening read read' written written' Misused kept ends = (kept, ends)
  ends_serving config opening read read' written written' Failed kept (failure, fails, counts) =
      (failure, fail_serving config opening failure fails, counted failure read read' written written' fails.of_serve.0 kept counts)

-- the refusal of an address could not be written
pub fail_unwritten : (files : KnownFiles) (front control : Text) (workers : ℕ) (file : Option Text) (before after told_before told_after : Option (List ℕ))
    → (IsNoAddress front) ⊎ IsNoControlAddress control → AppendsBeginning before after (codes "refused C1\n")
    → AppendsBeginning told_before told_after (line_of WriteFailed) → ServeFails files front control workers file before after told_before told_after WriteFailed
fail_unwritten files front control workers file before after told_before told_after none so_far told = record {
  no_read = λ none is. cc;
  no_silence = λ is. cc;
  no_rules_read = λ is. cc;
  written = λ other. absurd (other refl);
  begun = λ is. refusal_begun
      (begins_text (RefusesService files front control file) before after (codes "refused C1\n") so_far (λ whole written. no_address none written));
  not_bound = λ is. absurd (no_bind_write is);
  not_read = λ is. absurd (no_write_unread WriteFailed is refl);
  are_addresses = λ other more. absurd (other refl);
  told = told_alone told;
}
  where
    no_bind_write : ◌≡◌ {A = Failure} WriteFailed BindFailed → ⊥
    no_bind_write same = cc

pub fails_unwritten : (files : KnownFiles) (front control : Text) (workers : ℕ) (file : Option Text) (before after told_before told_after : Option (List ℕ))
    → (IsNoAddress front) ⊎ IsNoControlAddress control → AppendsBeginning before after (codes "refused C1\n")
    → AppendsBeginning told_before told_after (line_of WriteFailed)
    → EndsInServeFailure files front control workers file before after told_before told_after
fails_unwritten files front control workers file before after told_before told_after none so_far told =
    (WriteFailed, fail_unwritten files front control workers file before after told_before told_after none so_far told)

-- ---- `metrics`

-- the borrow stays the same
pub table_borrow : (Reports : Failure → Type 0) (known : Option (List ℕ)) (front : Option Text) (status : Status) (read read' : ℕ) (written written' : FailuresValue)
    → EndsByCauseOrTable Reports known front status read read' written written' → written'.borrow ≡ written.borrow
table_borrow Reports known front status read read' written written' (inl ends) = once_borrow Reports status read read' written written' ends
table_borrow Reports known front status read read' written written' (inr (is, reports, shows, read_kept, kept)) = ap (λ (f : FailuresValue). f.borrow) kept
