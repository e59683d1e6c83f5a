-- What a line is answered, kind by kind, and what a refusal keeps.
use Rattle.std.proofs.Common.{◌≡◌, ◌∙◌, ◌<◌, ◌≤◌, ◌∷◌, arith, Err, List, Ok, Result, [], ap, inl, inr, length, refl, subst, sym, ℕ}
use Rattle.std.specs.Prelude.{IfErr}
use Rattle.std.proofs.lemmas.List.{length-map}
use Rattle.config_image.specs.Image.{Group}
use Rattle.member_group.specs.Charge.{charge_of, members_of}
use Rattle.member_group.specs.declared.command.Command.{Command}
use Rattle.versions.specs.Free.{number_after}
use Rattle.read_section.specs.Operator.{OperatorValue}
use Rattle.read_section.specs.declared.operator.Reclaimed.{Reclaimed}
use Rattle.retire.specs.Publish.{IsBusy, Scanned, after_scans}
use Rattle.retire.specs.Sweep.{Sweeps}
use Rattle.retire.specs.declared.fault.PublishFault.TheVariants.{Busy, Exhausted, TooBig}
use Rattle.control_line.specs.declared.TheConstants.{LINE_LIMIT}
use Rattle.control_line.specs.declared.program.LineFault.{LineFault}
use Rattle.control_line.specs.declared.program.LineFault.TheVariants as failure_of
use Rattle.control_line.specs.declared.reason.Reason.{Reason}
use Rattle.control_line.specs.declared.reason.Reason.TheVariants.{Publishing}
use Rattle.control_line.specs.declared.reason.Reason.TheVariants as reason
use Rattle.control_line.specs.declared.reply.LineAnswer.{LineAnswer}
use Rattle.control_line.specs.declared.reply.LineAnswer.TheVariants.{GroupRead, LineRefused, MemberRead, PacketJudged, PacketMalformed, Published, Refused, Shown, Swept, WordsRead}
use Rattle.control_line.specs.Agrees.{Agrees, AgreesNow, TextConfig}
use Rattle.control_line.specs.Answer.{Answers, Does, DoesNothing, DoesRefused, IsRefusedReply, IsReplyTo, LeavesConfig, PublishesNothing, bad_form, changed, changed_at, charge_of_text, other_version, replied, shown, swept, too_long, was_read}
use Rattle.control_line.specs.Block.{IsTooLong, Message, SpellsMessage, after_line_feeds, block, for_version, long_block, long_line, single}
use Rattle.control_line.specs.body.Heads.{HasNoHead, IsShortForVersion}
use Rattle.control_line.proofs.HeadLemmas.{HasNoVersion, prefix_parts}
use Rattle.control_line.proofs.OneMessageLemmas.{no_request_at}
use Rattle.versions.specs.declared.layout.TheConstants.{LAST_NUMBER}
use Rattle.control_line.specs.Answer.{AsksForChange, IsAnswered, IsReadBack}
use Rattle.control_line.proofs.OneLineLemmas.{one_thing}
use Rattle.control_line.specs.body.Making.{IsChanged, IsOutcome, IsShown}
use Rattle.control_line.specs.Reply.{reply_text}
use Rattle.control_line.specs.Request.{Request, Spells, change, read, show, sweep}
use Rattle.control_line.specs.Reading.{Reading, reading_answer}
use Rattle.control_line.proofs.ReadBackLemmas.{does_nothing_read, read_alike}
use Rattle.filter_program.specs.Program.{Source}
use Rattle.control_line.proofs.ChangeLemmas.{agrees_with, charged_alike, scanned_keeps, still_agrees}
use Rattle.member_group.proofs.OverLemmas.{members_of-over}
use Rattle.member_group.specs.Over.{group_over}
use Rattle.control_line.proofs.FormLemmas.{differ}

-- ---- lines

module _ (line : List ℕ) (before : OperatorValue) (no_head : HasNoHead line) where
  pub is_too_long : LINE_LIMIT < length line → IsAnswered line before before (Refused reason.LineTooLong)
  is_too_long above = record { steps = refl; read_back = λ reading small spells. absurd (omega arith); text = λ config agrees. (config, too_long (long_line no_head above), agrees) }

  module _ (short : length line ≤ LINE_LIMIT) where
    not_long : IsTooLong line → ⊥
    not_long (long_block head rest has above) = no_head head rest has
    not_long (long_line none above) = omega arith

    pub is_bad_form : HasNoVersion line → ((request : Request) → Spells line request → ⊥) → IsAnswered line before before (Refused reason.BadForm)
    is_bad_form no_version none = record {
      steps = refl;
      read_back = λ reading small spells. absurd (none (read reading) spells);
      text = λ config agrees. (config, bad_form not_long no_message, agrees);
    }
      where
        no_message : (message : Message) → SpellsMessage line message → ⊥
        no_message (single request) spells = none request spells
        no_message (for_version version command) spells = no_version version spells.1 spells.0 spells.2
        no_message (block head lines) is = no_head head (after_line_feeds lines) is.has_head

    is_changed : (command : Command Source) (after : OperatorValue) (answer : LineAnswer) → Spells line (change command) → IsChanged command before after answer → IsAnswered line before after answer
    is_changed command after answer spells done = record {
      steps = done.steps;
      read_back = λ reading small reads. let same = one_thing line (change command) (read reading) spells reads in absurd (cc);
      text = λ config agrees. let next = done.text config agrees in (next.0, replied (single (change command)) answer next.0 not_long spells (changed command answer next.0 next.1), next.2);
    }

    pub change_answered : (command : Command Source) (after : OperatorValue) (result : Result LineAnswer LineFault) → Spells line (change command) → IsOutcome (IsChanged command) before after result → IsOutcome (IsAnswered line) before after result
    change_answered command after (Ok answer) spells done = is_changed command after answer spells done
    change_answered command after (Err (failure_of.Refused why)) spells done = is_changed command after (Refused why) spells done
    change_answered command after (Err failure_of.OutOfMemory) spells same = same

    shown_alike : (config : TextConfig) (real : List Group) → Agrees config real → (version : ℕ) → Shown version (length real) (members_of real) (charge_of real) ≡ Shown version (length config) (members_of config) (charge_of_text config)
    shown_alike config real agrees version =
        let groups : length real ≡ length config = ap length agrees.2 ∙ (length-map agrees.0 (group_over (λ both. both.program)) ∙ (sym (length-map agrees.0 (group_over (λ both. both.loaded))) ∙ ap length (sym agrees.1))) in
        let members : members_of real ≡ members_of config = ap members_of agrees.2 ∙ (members_of-over (λ both. both.program) agrees.0 ∙ (sym (members_of-over (λ both. both.loaded) agrees.0) ∙ ap members_of (sym agrees.1))) in
        ap (λ n. Shown version n (members_of real) (charge_of real)) groups
        ∙ ap (λ n. Shown version (length config) n (charge_of real)) members
        ∙ ap (λ n. Shown version (length config) (members_of config) n) (charged_alike config real agrees)

    pub is_shown : Spells line show → (answer : LineAnswer) → IsShown before.view answer → IsAnswered line before before answer
    is_shown spells answer (real, current, is) = subst (IsAnswered line before before) (sym is) (record {
      steps = refl;
      read_back = λ reading small reads. let same = one_thing line show (read reading) spells reads in absurd (cc);
      text = λ config agrees. (
        config,
        subst (λ a. Answers (number_after before.view.log) config line a config) (sym (shown_alike config real (agrees_with config before.view real current agrees) (number_after before.view.log))) (replied (single show) _ _ not_long spells shown),
        agrees,
      );
    })

    pub is_read : (reading : Reading) → Spells line (read reading) → (answer : LineAnswer) → IsReadBack reading before.view answer → IsAnswered line before before answer
    is_read reading spells answer (real, current, is) = subst (IsAnswered line before before) (sym is) (record {
      steps = does_nothing_read (λ program. program.words) (number_after before.view.log) real reading before;
      read_back = λ other small reads.
          let one = one_thing line (read reading) (read other) spells reads in
          let same : reading ≡ other = cc in
          ((real, current, ap (reading_answer (λ program. program.words) (number_after before.view.log) real) same), refl);
      text = λ config agrees. (
        config,
        subst (λ a. Answers (number_after before.view.log) config line a config) (sym (read_alike config real (agrees_with config before.view real current agrees) (number_after before.view.log) reading)) (replied (single (read reading)) _ _ not_long spells (was_read reading)),
        agrees,
      );
    })

    pub is_swept : Spells line sweep → (after : OperatorValue) (reclaimed : Reclaimed) → Sweeps before after reclaimed.first reclaimed.count → IsAnswered line before after (Swept reclaimed)
    is_swept spells after reclaimed sweeps = record {
      steps = sweeps;
      read_back = λ reading small reads. let same = one_thing line sweep (read reading) spells reads in absurd (cc);
      text = λ config agrees. (
        config,
        replied (single sweep) _ _ not_long spells (swept reclaimed),
        still_agrees config before.view after.view (ap (λ (o : OperatorValue). o.view.published) sweeps.reported ∙ scanned_keeps before sweeps.scanned sweeps.each) agrees,
      );
    }

-- ---- changes for one version only

module _ (text : List ℕ) (version : ℕ) (line : List ℕ) (is : IsShortForVersion text version line) (small : version ≤ LAST_NUMBER) (before : OperatorValue) where
  at_not_long : IsTooLong text → ⊥
  at_not_long (long_block head rest has above) = is.no_head head rest has
  at_not_long (long_line none above) = let short = is.short in omega arith

  at_no_request : (request : Request) → Spells text request → ⊥
  at_no_request request spells = no_request_at version line request (subst (λ t. Spells t request) is.whole spells)

  pub at_bad_form : ((command : Command Source) → Spells line (change command) → ⊥) → IsAnswered text before before (Refused reason.BadForm)
  at_bad_form none = record {
    steps = refl;
    read_back = λ reading short spells. absurd (at_no_request (read reading) spells);
    text = λ config agrees. (config, bad_form at_not_long no_message, agrees);
  }
    where
      no_message : (message : Message) → SpellsMessage text message → ⊥
      no_message (single request) spells = at_no_request request spells
      no_message (for_version v command) spells =
          none command (subst (λ t. Spells t (change command)) (sym (prefix_parts version v line spells.1 small spells.0 (sym is.whole ∙ spells.2)).1) spells.3)
      no_message (block head lines) spells = is.no_head head (after_line_feeds lines) spells.has_head

  module _ (command : Command Source) (spells : Spells line (change command)) where
    spells_text : SpellsMessage text (for_version version command)
    spells_text = (small, line, is.whole, spells)

    pub at_other : (version ≡ number_after before.view.log → ⊥) → IsAnswered text before before (Refused (reason.OtherVersion (number_after before.view.log)))
    at_other other = record {
      steps = refl;
      read_back = λ reading short reads. absurd (at_no_request (read reading) reads);
      text = λ config agrees. (config, replied (for_version version command) _ _ at_not_long spells_text (other_version (for_version version command) version refl other), agrees);
    }

    module _ (same : version ≡ number_after before.view.log) (after : OperatorValue) where
      at_changed : (answer : LineAnswer) → IsChanged command before after answer → IsAnswered text before after answer
      at_changed answer done = record {
        steps = done.steps;
        read_back = λ reading short reads. absurd (at_no_request (read reading) reads);
        text = λ config agrees.
            let next = done.text config agrees in (next.0, replied (for_version version command) answer next.0 at_not_long spells_text (changed_at version command answer next.0 same next.1), next.2);
      }

      pub at_answered : (result : Result LineAnswer LineFault) → IsOutcome (IsChanged command) before after result → IsOutcome (IsAnswered text) before after result
      at_answered (Ok answer) done = at_changed answer done
      at_answered (Err (failure_of.Refused why)) done = at_changed (Refused why) done
      at_answered (Err failure_of.OutOfMemory) kept = kept

    pub at_asks : AsksForChange text
    at_asks = (for_version version command, spells_text, tt)

-- memory that is refused to a change
pub asked : {line : List ℕ} (result : Result LineAnswer LineFault) → AsksForChange line → IfErr result (λ fault. fault ≡ failure_of.OutOfMemory → AsksForChange line)
asked (Ok answer) asks = tt
asked (Err fault) asks = λ same. asks

-- ---- what a refusal keeps

keeps_same : (before after : OperatorValue) → after ≡ before → PublishesNothing before after
keeps_same before after same = subst (PublishesNothing before) (sym same) (record { table = refl; published = refl; version_rows = refl; number = refl })

scans_keep_versions : (scans : List Scanned) (before : OperatorValue) → PublishesNothing before (after_scans scans before)
scans_keep_versions [] before = record { table = refl; published = refl; version_rows = refl; number = refl }
scans_keep_versions (last ∷ earlier) before =
    let kept = scans_keep_versions earlier before in
    record { table = kept.table; published = kept.published; version_rows = kept.version_rows; number = kept.number }

busy_keeps : (before after : OperatorValue) → IsBusy before after → PublishesNothing before after
busy_keeps before after is_busy = subst (PublishesNothing before) (sym is_busy.scanned.no_more) (scans_keep_versions is_busy.scanned.scans before)

pub nothing_keeps : (before after : OperatorValue) → DoesNothing before after → PublishesNothing before after
nothing_keeps before after (inl same) = keeps_same before after same
nothing_keeps before after (inr is_busy) = busy_keeps before after is_busy

pub refused_does_nothing : (why : Reason) (before after : OperatorValue) → DoesRefused why before after → DoesNothing before after
refused_does_nothing reason.BadForm before after does = inl does
refused_does_nothing reason.LineTooLong before after does = inl does
refused_does_nothing reason.PacketTooLong before after does = inl does
refused_does_nothing (reason.Text fault) before after does = inl does
refused_does_nothing (reason.Command refusal) before after does = inl does
refused_does_nothing (reason.OtherVersion current) before after does = inl does
refused_does_nothing (Publishing TooBig) before after does = inl does
refused_does_nothing (Publishing Exhausted) before after does = inl does
refused_does_nothing (Publishing Busy) before after does = inr does

pub refusal_does_nothing : (answer : LineAnswer) (before after : OperatorValue) → Does answer before after → (reply : List ℕ) → reply ≡ reply_text answer → IsRefusedReply reply → DoesNothing before after
refusal_does_nothing (Refused why) before after does reply is refusal = refused_does_nothing why before after does
refusal_does_nothing (LineRefused number why) before after does reply is refusal = inl does
refusal_does_nothing (Published version) before after does reply is (rest, begins) = absurd (differ 0 (sym is ∙ begins) refl)
refusal_does_nothing (Shown version groups members charge) before after does reply is (rest, begins) = absurd (differ 0 (sym is ∙ begins) refl)
refusal_does_nothing (GroupRead version index groups key members selector) before after does reply is (rest, begins) = absurd (differ 0 (sym is ∙ begins) refl)
refusal_does_nothing (MemberRead version index members id to filter locked) before after does reply is (rest, begins) = absurd (differ 0 (sym is ∙ begins) refl)
refusal_does_nothing (WordsRead version place count words) before after does reply is (rest, begins) = absurd (differ 0 (sym is ∙ begins) refl)
refusal_does_nothing (PacketJudged version judged) before after does reply is (rest, begins) = absurd (differ 0 (sym is ∙ begins) refl)
refusal_does_nothing (PacketMalformed version why) before after does reply is (rest, begins) = absurd (differ 0 (sym is ∙ begins) refl)
refusal_does_nothing (Swept reclaimed) before after does reply is (rest, begins) = absurd (differ 2 (sym is ∙ begins) refl)

-- ---- the reply

module _ (line : List ℕ) (before after : OperatorValue) (answer : LineAnswer) (answered : IsAnswered line before after answer) (reply : List ℕ) (is : reply ≡ reply_text answer) where
  pub is_reply : (config : TextConfig) → AgreesNow config before.view → IsReplyTo config line before after reply
  is_reply config agrees = let next = answered.text config agrees in (answer, next.0, next.1, is, answered.steps)

  pub leaves_config : (config : TextConfig) → AgreesNow config before.view → LeavesConfig config line before after reply
  leaves_config config agrees = let next = answered.text config agrees in (answer, next.0, next.1, is, next.2)

  pub does_nothing : IsRefusedReply reply → DoesNothing before after
  does_nothing refusal = refusal_does_nothing answer before after answered.steps reply is refusal

  pub keeps : IsRefusedReply reply → PublishesNothing before after
  keeps refusal = nothing_keeps before after (does_nothing refusal)
