-- A change that the operator makes is the one that the texts mean.
use Rattle.std.proofs.Common.{◌≡◌, ◌∙◌, ◌+◌, ◌<◌, ◌≤◌, ◌⊎◌, ◌∷◌, Err, List, Ok, Result, Some, [], ap, arith, inl, inr, refl, subst, sym, ℕ}
use Rattle.std.specs.Prelude.{◌↔◌, MatchResult}
use Rattle.std.proofs.lemmas.Bool.{cases_lt}
use Rattle.std.proofs.lemmas.List.{same_from_push}
use Rattle.bpf_verify.specs.Program.{ProgramValue}
use Rattle.config_image.specs.Image.{Group}
use Rattle.member_group.specs.Charge.{charge_of}
use Rattle.member_group.specs.Command.{after as after_command}
use Rattle.member_group.specs.Refusal.{first_refusal}
use Rattle.member_group.specs.declared.command.Command.{Command}
use Rattle.member_group.specs.declared.refusal.Refusal.{Refusal}
use Rattle.versions.specs.Free.{number_after}
use Rattle.versions.specs.declared.layout.TheConstants.{CHARGE_LIMIT, LAST_NUMBER}
use Rattle.versions.specs.declared.view.OperatorView.{OperatorView}
use Rattle.read_section.specs.Operator.{IsCurrent, OperatorValue}
use Rattle.retire.specs.Publish.{IsBusy, Publishes, Scanned, ScansEach, after_scans}
use Rattle.retire.specs.declared.fault.PublishFault.{PublishFault}
use Rattle.retire.specs.declared.fault.PublishFault.TheVariants.{Busy, Exhausted, TooBig}
use Rattle.control_line.specs.declared.reason.Reason.{Reason}
use Rattle.control_line.specs.declared.reason.Reason.TheVariants.{Publishing}
use Rattle.control_line.specs.declared.reason.Reason.TheVariants as reason
use Rattle.control_line.specs.declared.reply.LineAnswer.{LineAnswer}
use Rattle.control_line.specs.declared.reply.LineAnswer.TheVariants.{Published, Refused}
use Rattle.control_line.specs.Agrees.{Agrees, AgreesNow, TextConfig}
use Rattle.control_line.specs.Answer.{DoesRefused, Means, PublishesText, bad_text, busy, charge_of_text, exhausted, is_made, not_made, published, refused, too_big}
use Rattle.control_line.specs.declared.program.LineFault.{LineFault}
use Rattle.control_line.specs.declared.program.LineFault.TheVariants as failure_of
use Rattle.control_line.specs.body.Making.{IsChangeDone, IsChangeFault, IsChanged, IsLineFaultOfCommand, IsMadeCommand, IsNext, IsOutcome, IsOwnFault, IsPublication, IsRefusedFor}
use Rattle.control_line.specs.Agrees.{Agreeing}
use Rattle.filter_program.specs.declared.fault.TextFault.{TextFault}
use Rattle.filter_program.specs.declared.fault.TextFault.TheVariants as text_fault
use Rattle.control_line.specs.Reason.{IsRefusalOfText, reason_of_text}
use Rattle.filter_program.specs.Program.{text_charge}
use Rattle.filter_program.specs.Program.{Source}
use Rattle.member_group.proofs.OverLemmas.{after-over, charge_by-over, first_refusal-over}
use Rattle.member_group.specs.Over.{command_over}

-- ---- steps that publish nothing

scans_keep : (scans : List Scanned) (before : OperatorValue) → (after_scans scans before).view.published ≡ before.view.published
scans_keep [] before = refl
scans_keep (last ∷ earlier) before = scans_keep earlier before

pub scanned_keeps : (before after : OperatorValue) → ScansEach before after → after.view.published ≡ before.view.published
scanned_keeps before after each = ap (λ (operator : OperatorValue). operator.view.published) each.no_more ∙ scans_keep each.scans before

pub still_agrees : (config : TextConfig) (before after : OperatorView (List Group)) → after.published ≡ before.published → AgreesNow config before → AgreesNow config after
still_agrees config before after same (current, (older, is), agrees) = (current, (older, same ∙ is), agrees)

-- ---- the current configuration

-- the configuration that the text's agrees with is the current one
pub agrees_with : (config : TextConfig) (view : OperatorView (List Group)) (real : List Group) → IsCurrent view real → AgreesNow config view → Agrees config real
agrees_with config view real (older, is) (current, (others, also), agrees) =
    subst (Agrees config) (same_from_push others older current real (sym also ∙ is)).1 agrees

-- they are charged alike
pub charged_alike : (config : TextConfig) (next : List Group) → Agrees config next → charge_of next ≡ charge_of_text config
charged_alike config next (pairs, text_is, real_is) =
    ap charge_of real_is
    ∙ charge_by-over (λ b. b.program) (λ program. program.charge) (λ b. text_charge b.loaded.text) (λ b. b.charge) pairs
    ∙ sym (charge_by-over (λ b. b.loaded) (λ program. text_charge program.text) (λ b. text_charge b.loaded.text) (λ b. refl) pairs)
    ∙ ap charge_of_text (sym text_is)

-- ---- changes

module _ (command : Command Source) (real : List Group) (both : Command Agreeing) (means : Means command (command_over (λ b. b.loaded) both)) where
  -- the first refusal is the same on both sides
  refuses_alike : (config : TextConfig) → Agrees config real → first_refusal (command_over (λ b. b.loaded) both) config ≡ first_refusal (command_over (λ b. b.program) both) real
  refuses_alike config (pairs, text_is, real_is) =
      ap (first_refusal (command_over (λ b. b.loaded) both)) text_is
      ∙ first_refusal-over (λ b. b.loaded) both pairs
      ∙ sym (first_refusal-over (λ b. b.program) both pairs)
      ∙ ap (first_refusal (command_over (λ b. b.program) both)) (sym real_is)

  -- and so are the next configurations
  next_agrees : (config : TextConfig) → Agrees config real → Agrees (after_command (command_over (λ b. b.loaded) both) config) (after_command (command_over (λ b. b.program) both) real)
  next_agrees config (pairs, text_is, real_is) = (
    after_command both pairs,
    ap (after_command (command_over (λ b. b.loaded) both)) text_is ∙ after-over (λ b. b.loaded) both pairs,
    ap (after_command (command_over (λ b. b.program) both)) real_is ∙ after-over (λ b. b.program) both pairs,
  )

  refused_for : (refusal : Refusal) → first_refusal (command_over (λ b. b.program) both) real ≡ Some refusal → IsChangeFault command real (failure_of.Refused (reason.Command refusal))
  refused_for refusal first = (tt, λ config agrees. refused _ refusal means (refuses_alike config agrees ∙ first))

  leads_to : (next : List Group) → IsNext (command_over (λ b. b.program) both) real next → IsChangeDone command real next
  leads_to next made config agrees = (
    after_command (command_over (λ b. b.loaded) both) config,
    record { made = _; means = means; applied = refuses_alike config agrees ∙ made.applied; is = refl },
    subst (Agrees _) (sym made.is) (next_agrees config agrees),
  )

-- a text is refused for its own fault
text_is_own : (source : Source) (why : Reason) → IsRefusalOfText source why → IsOwnFault why
text_is_own source why (fault, is, named) = by_fault fault named
  where
    own : (f : TextFault) → Some (reason.Text f) ≡ Some why → IsOwnFault why
    own f same = let is : reason.Text f ≡ why = cc in subst IsOwnFault is tt

    by_fault : (f : TextFault) → reason_of_text f ≡ Some why → IsOwnFault why
    by_fault text_fault.OutOfMemory named = absurd (cc)
    by_fault f named = own f named

pub no_command : (command : Command Source) (real : List Group) (failure : LineFault) → IsLineFaultOfCommand command failure → IsChangeFault command real failure
no_command command real (failure_of.Refused why) (source, has, fault) = (text_is_own source why fault, λ config agrees. bad_text source why has fault)
no_command command real failure_of.OutOfMemory none = tt

module _ (command : Command Source) (real : List Group) (made : Command ProgramValue) (is_made : IsMadeCommand command made) where
  no_next : (failure : LineFault) → IsRefusedFor (first_refusal made real) failure → IsChangeFault command real failure
  no_next (failure_of.Refused why) (refusal, first, is) =
      subst (λ w. IsChangeFault command real (failure_of.Refused w)) (sym is) (refused_for command real is_made.0 is_made.1 refusal (ap (λ c. first_refusal c real) (sym is_made.2) ∙ first))
  no_next failure_of.OutOfMemory none = tt

  pub change_result : (result : Result (List Group) LineFault) → MatchResult result (IsNext made real) (IsRefusedFor (first_refusal made real)) → MatchResult result (IsChangeDone command real) (IsChangeFault command real)
  change_result (Ok next) is = leads_to command real is_made.0 is_made.1 next (subst (λ c. IsNext c real next) is_made.2 is)
  change_result (Err failure) is = no_next failure is

  pub done_result : {V : Type 0} (next : List Group) (result : Result V LineFault) → MatchResult result (λ _. IsNext made real next) (IsRefusedFor (first_refusal made real))
      → MatchResult result (λ _. IsChangeDone command real next) (IsChangeFault command real)
  done_result next (Ok done) is = leads_to command real is_made.0 is_made.1 next (subst (λ c. IsNext c real next) is_made.2 is)
  done_result next (Err failure) is = no_next failure is

-- ---- publications

module _ (next : List Group) (before : OperatorValue) where
  pub is_published : (after : OperatorValue) (version : ℕ) → (CHARGE_LIMIT < charge_of next → ⊥) → (charge_of next ≤ CHARGE_LIMIT → number_after before.view.log ≡ LAST_NUMBER → ⊥) → Publishes before after next → version ≡ number_after before.view.log + 1 → IsPublication next before after (Published version)
  is_published after version not_big not_last publishes is = by_charge (cases_lt CHARGE_LIMIT (charge_of next))
    where
      by_charge : (CHARGE_LIMIT < charge_of next) ⊎ (charge_of next ≤ CHARGE_LIMIT) → IsPublication next before after (Published version)
      by_charge (inl above) = absurd (not_big above)
      by_charge (inr small) = record {
        steps = (next, publishes);
        text = λ config made agrees also. (
          made,
          subst (λ n. PublishesText (number_after before.view.log) config made (Published n) made) (sym is) (published (omega (arith, charged_alike made next also)) (not_last small)),
          (next, (before.view.published, publishes.published), also),
        );
      }

  too_big_stays : CHARGE_LIMIT < charge_of next → IsPublication next before before (Refused (Publishing TooBig))
  too_big_stays big = record { steps = refl; text = λ config made agrees also. (config, too_big (omega (arith, charged_alike made next also)), agrees) }

  exhausted_stays : charge_of next ≤ CHARGE_LIMIT → number_after before.view.log ≡ LAST_NUMBER → IsPublication next before before (Refused (Publishing Exhausted))
  exhausted_stays small last = record { steps = refl; text = λ config made agrees also. (config, exhausted (omega (arith, charged_alike made next also)) last, agrees) }

  busy_stays : (after : OperatorValue) → charge_of next ≤ CHARGE_LIMIT → (number_after before.view.log ≡ LAST_NUMBER → ⊥) → IsBusy before after → IsPublication next before after (Refused (Publishing Busy))
  busy_stays after small left is_busy = record {
    steps = is_busy;
    text = λ config made agrees also. (config, busy (omega (arith, charged_alike made next also)) left, still_agrees config before.view after.view (scanned_keeps before after is_busy.scanned) agrees);
  }

  pub is_unpublished : (after : OperatorValue) (fault : PublishFault) → (fault ≡ TooBig) ↔ (CHARGE_LIMIT < charge_of next) → (fault ≡ Exhausted) ↔ ((charge_of next ≤ CHARGE_LIMIT) × (number_after before.view.log ≡ LAST_NUMBER)) → (fault ≡ Busy → IsBusy before after) → ((fault ≡ Busy → ⊥) → after ≡ before) → IsPublication next before after (Refused (Publishing fault))
  is_unpublished after TooBig big last is_busy kept = subst (λ o. IsPublication next before o (Refused (Publishing TooBig))) (sym (kept (λ e. cc))) (too_big_stays (big.0 refl))
  is_unpublished after Exhausted big last is_busy kept =
      let both = last.0 refl in
      subst (λ o. IsPublication next before o (Refused (Publishing Exhausted))) (sym (kept (λ e. cc))) (exhausted_stays both.0 both.1)
  is_unpublished after Busy big last is_busy kept = by_charge (cases_lt CHARGE_LIMIT (charge_of next))
    where
      by_charge : (CHARGE_LIMIT < charge_of next) ⊎ (charge_of next ≤ CHARGE_LIMIT) → IsPublication next before after (Refused (Publishing Busy))
      by_charge (inl above) = let not_busy = big.1 above in absurd (cc)
      by_charge (inr small) = busy_stays after small (λ e. let not_busy = last.1 (small, e) in absurd (cc)) (is_busy refl)

-- ---- a change that is published

own_does : (why : Reason) (before : OperatorValue) → IsOwnFault why → DoesRefused why before before
own_does reason.BadForm before own = refl
own_does reason.LineTooLong before own = refl
own_does reason.PacketTooLong before own = refl
own_does (reason.Text fault) before own = refl
own_does (reason.Command refusal) before own = refl
own_does (reason.OtherVersion current) before own = refl
own_does (Publishing fault) before own = absurd own

module _ (before : OperatorValue) (command : Command Source) (real : List Group) (current : IsCurrent before.view real) where
  pub not_changed : (failure : LineFault) → IsChangeFault command real failure → IsOutcome (IsChanged command) before before (Err failure)
  not_changed (failure_of.Refused why) fault = record {
    steps = own_does why before fault.0;
    text = λ config agrees. (config, not_made why (fault.1 config (agrees_with config before.view real current agrees)), agrees);
  }
  not_changed failure_of.OutOfMemory none = refl

  pub change_published : (after : OperatorValue) (next : List Group) (answer : LineAnswer) → IsChangeDone command real next → IsPublication next before after answer → IsChanged command before after answer
  change_published after next answer done publication = record {
    steps = publication.steps;
    text = λ config agrees.
        let now = done config (agrees_with config before.view real current agrees) in
        let left = publication.text config now.0 agrees now.2 in
        (left.0, is_made now.0 answer left.0 now.1 left.1, left.2);
  }
