-- What the operator does for a line while each version that was replaced is free.
use Rattle.std.proofs.Common.{Contains, ◌≡◌, ◌∙◌, ◌+◌, ◌<◌, ◌≤◌, ◌++◌, ◌∷◌, List, [], add-one, ap, arith, inl, inr, length, length-append, refl, subst, suc, sym, ℕ, ⊎_elim}
use Rattle.std.proofs.lemmas.Bool.{cases_lt}
use mathlib.Core.Logic.{dite}
use mathlib.Core.Option.{some}
use native.Mathlib.Decide.{ℕ_discrete}
use lib.ListN.{get_elem?}
use Rattle.config_image.specs.Image.{Group}
use Rattle.versions.specs.declared.step.Entry.{Entry}
use Rattle.versions.specs.declared.step.Step.TheVariants.{Scan}
use Rattle.versions.specs.declared.view.OperatorView.{OperatorView}
use Rattle.versions.specs.Free.{IsFree, IsFreeRow, number_after, number_by}
use Rattle.versions.specs.Step.{entry}
use Rattle.versions.specs.Table.{the_shape}
use Rattle.versions.proofs.ListLemmas.{elem_below, elem_same, elem_there}
use Rattle.versions.proofs.LogLemmas.{IsFree-on}
use Rattle.versions.proofs.ShapeLemmas.{rows_is}
use Rattle.read_section.specs.Operator.{OperatorValue, scanned}
use Rattle.read_section.specs.Operator.{HasFreeRow}
use Rattle.retire.specs.Publish.{IsFormFill, Publishes, Scanned, ScansEach, after_scans}
use Rattle.retire.specs.Sweep.{Sweeps}
use Rattle.retire.specs.declared.fault.PublishFault.TheVariants.{Busy, Exhausted, TooBig}
use Rattle.retire.proofs.PublishLemmas.{looked_keeps, number_found}
use Rattle.retire.proofs.RowLemmas.{contains_later}
use Rattle.control_line.specs.declared.reason.Reason.{Reason}
use Rattle.control_line.specs.declared.reason.Reason.TheVariants.{Publishing}
use Rattle.control_line.specs.declared.reason.Reason.TheVariants as reason
use Rattle.control_line.specs.declared.reply.LineAnswer.{LineAnswer}
use Rattle.control_line.specs.declared.reply.LineAnswer.TheVariants.{GroupRead, LineRefused, MemberRead, PacketJudged, PacketMalformed, Published, Refused, Shown, Swept, WordsRead}
use Rattle.control_line.specs.Agrees.{AgreesNow, TextConfig}
use Rattle.control_line.specs.declared.head.Start.{Start}
use Rattle.control_line.specs.Answer.{Answers, AnswersMessageBy, Changes, ChangesTogetherBy, Does, DoesRefused, PublishesText, all_made, bad_form, busy, changed, changed_at, changed_together, exhausted, is_made, line_refused, not_made, other_version, published, replied, shown, swept, too_big, too_long, was_read}
use Rattle.control_line.specs.Block.{Message}
use Rattle.control_line.proofs.ReadBackLemmas.{each_reading}
use Rattle.control.specs.body.Ready.{AllFree, Stands}
use Rattle.filter_program.specs.Program.{IsProgramFor, Source}
use Rattle.control.specs.Script.{ComesInScript, Standing, standing_after}
use Rattle.member_group.specs.declared.command.Command.{Command}

-- ---- the number that a line tells

abbrev IsNextNumber : ℕ → LineAnswer → Type 0
IsNextNumber version (Published next) = next ≡ version + 1
IsNextNumber version _ = Unit {0}

publishes_number : (version : ℕ) (config next left : TextConfig) (answer : LineAnswer) → PublishesText version config next answer left → IsNextNumber version answer
publishes_number version config next left answer (too_big big) = tt
publishes_number version config next left answer (exhausted small last) = tt
publishes_number version config next left answer (busy small more) = tt
publishes_number version config next left answer (published small more) = refl

change_number : (version : ℕ) (config next : TextConfig) (command : Command Source) (answer : LineAnswer) → Changes version config command answer next → IsNextNumber version answer
change_number version config next command answer (not_made why refuses) = tt
change_number version config next command answer (is_made other result left leads publishes) = publishes_number version config other left result publishes

together_number : (version : ℕ) (config next : TextConfig) (start : Start) (lines : List (List ℕ)) (answer : LineAnswer) → ChangesTogetherBy IsProgramFor version config start lines answer next → IsNextNumber version answer
together_number version config next start lines answer (line_refused number why first) = tt
together_number version config next start lines answer (all_made other result left leads publishes) = publishes_number version config other left result publishes

message_number : (version : ℕ) (config next : TextConfig) (message : Message) (answer : LineAnswer) → AnswersMessageBy IsProgramFor version config message answer next → IsNextNumber version answer
message_number version config next message answer (other_version _ wanted is differs) = tt
message_number version config next message answer (changed command other after changes) = change_number version config next command answer changes
message_number version config next message answer (changed_at wanted command other after same changes) = change_number version config next command answer changes
message_number version config next message answer (changed_together head lines other after fits changes) = together_number version config next head.start lines answer changes
message_number version config next message answer shown = tt
message_number version config next message answer (was_read reading) =
    each_reading (λ program. program.words) (IsNextNumber version) (λ refusal. tt) (λ version' index groups key members selector. tt) (λ version' index members id to filter locked. tt) (λ version' place count words. tt) tt tt (λ version' judged. tt) (λ version' why. tt) version config reading
message_number version config next message answer (swept reclaimed) = tt

next_number : (version : ℕ) (config next : TextConfig) (request : List ℕ) (answer : LineAnswer) → Answers version config request answer next → IsNextNumber version answer
next_number version config next request answer (too_long above) = tt
next_number version config next request answer (bad_form short none) = tt
next_number version config next request answer (replied message other after short spells done) = message_number version config next message answer done

-- ---- fills change no number

form_fill : (view : OperatorView (List Group)) (r : ℕ) (config : List Group) (pages : List ℕ) (older : List Entry) (newest : Entry) → IsFormFill view r config pages newest → number_by newest.step (number_after older) ≡ number_after older
form_fill view r config pages older newest (inl row) = ap (λ (e : Entry). number_by e.step (number_after older)) row.fill
form_fill view r config pages older newest (inr part) = ap (λ (e : Entry). number_by e.step (number_after older)) part.fill

number_after-fills : (view : OperatorView (List Group)) (r : ℕ) (config : List Group) (pages : List ℕ) (fills older : List Entry) → ((newest : Entry) → Contains fills newest → IsFormFill view r config pages newest) → number_after (fills ++ older) ≡ number_after older
number_after-fills view r config pages [] older filled = refl
number_after-fills view r config pages (newest ∷ fills) older filled =
    form_fill view r config pages (fills ++ older) newest (filled newest (0, omega arith, refl))
    ∙ number_after-fills view r config pages fills older (λ later c. filled later (contains_later newest later fills c))

-- ---- the ready state

module _ (before : OperatorValue) (now : Standing) (stands : Stands before now) (free : AllFree before) where
  -- a row is free in which the current version does not stand
  free_unless : (q current : ℕ) → q < the_shape.rows → get_elem? before.view.version_rows now.version ≡ some current → (current ≡ q → ⊥) → IsFreeRow the_shape before.view q
  free_unless q current low at other = (
    low,
    λ m last. dite (ℕ_discrete m now.version)
        (λ e. absurd (other (elem_same before.view.version_rows now.version current q at (subst (λ k. get_elem? before.view.version_rows k ≡ some q) e last.0))))
        (λ ne. let below = elem_below before.view.version_rows m q last.0 in let long = stands.rows_length in let number = stands.version in free m (omega arith)),
  )

  -- so the first row is free, or the second
  has_free_row : HasFreeRow before.view
  has_free_row =
      let long = stands.rows_length in
      let (current, at) = elem_there before.view.version_rows now.version (omega arith) in
      dite (ℕ_discrete current 0)
      (λ e. (1, free_unless 1 current (omega (arith, rows_is)) at (λ other. omega arith)))
      (λ ne. (0, free_unless 0 current (omega (arith, rows_is)) at ne))

  stands_on : (after : OperatorValue) (next : TextConfig) (reported : ℕ) → AgreesNow next after.view → after.view.published ≡ before.view.published → after.view.version_rows ≡ before.view.version_rows
      → number_after after.view.log ≡ number_after before.view.log → reported ≡ after.reported → reported ≤ now.version → Stands after (record now { config = next; reported = reported })
  stands_on after next reported agrees same_published rows number told limited = record {
    agrees = agrees;
    version = stands.version ∙ sym number;
    published_length = ap length same_published ∙ stands.published_length;
    rows_length = ap length rows ∙ stands.rows_length;
    reported = told;
    limited = limited;
  }

  stands_same : (after : OperatorValue) (next : TextConfig) → after ≡ before → AgreesNow next after.view → Stands after (record now { config = next })
  stands_same after next same agrees =
      stands_on after next now.reported agrees (ap (λ (o : OperatorValue). o.view.published) same) (ap (λ (o : OperatorValue). o.view.version_rows) same) (ap (λ (o : OperatorValue). number_after o.view.log) same)
      (stands.reported ∙ sym (ap (λ (o : OperatorValue). o.reported) same)) stands.limited

  -- ---- a refusal does nothing, since a publication is not busy

  refusal_comes : (why : Reason) (after : OperatorValue) → DoesRefused why before after → ComesInScript now (Refused why) × (after ≡ before)
  refusal_comes reason.BadForm after same = (tt, same)
  refusal_comes reason.LineTooLong after same = (tt, same)
  refusal_comes reason.PacketTooLong after same = (tt, same)
  refusal_comes (reason.Text why) after same = (tt, same)
  refusal_comes (reason.Command why) after same = (tt, same)
  refusal_comes (reason.OtherVersion current) after same = (tt, same)
  refusal_comes (Publishing TooBig) after same = (tt, same)
  refusal_comes (Publishing Exhausted) after same = (tt, same)
  refusal_comes (Publishing Busy) after is_busy = absurd (is_busy.none_before has_free_row)

  -- ---- a publication

  module _ (after : OperatorValue) (config : List Group) (publishes : Publishes before after config) where
    number_published : number_after after.view.log ≡ now.version + 1
    number_published =
        ap number_after publishes.log
        ∙ ap suc (number_after-fills publishes.found.view publishes.taken config publishes.pages publishes.fills publishes.found.view.log publishes.filled ∙ number_found before publishes.found publishes.looked ∙ sym stands.version)
        ∙ sym (add-one now.version)

    stands_published : (version : ℕ) (next : TextConfig) → version ≡ now.version + 1 → AgreesNow next after.view → Stands after (record now { version = version; config = next })
    stands_published version next is agrees =
        let long = stands.published_length in let long_rows = stands.rows_length in let limited = stands.limited in record {
          agrees = agrees;
          version = is ∙ sym number_published;
          published_length = omega (arith, ap length publishes.published, length-append before.view.published (config ∷ []));
          rows_length = omega (arith, ap length publishes.version_rows, length-append before.view.version_rows (publishes.taken ∷ []));
          reported = stands.reported ∙ sym publishes.reported;
          limited = omega arith;
        }

  -- ---- a sweep

  still_free : (scans : List Scanned) (m : ℕ) → IsFree the_shape m before.view.log → IsFree the_shape m (after_scans scans before).view.log
  still_free [] m h = h
  still_free (last ∷ earlier) m h = IsFree-on the_shape m (entry (Scan (1 + length earlier)) last.word) (after_scans earlier before).view.log (still_free earlier m h)

  kept : {A : Type 0} → (f : OperatorValue → A) → ((w x : ℕ) (log : List Entry) (o : OperatorValue) → f (scanned w x log o) ≡ f o) → (after : OperatorValue) → ScansEach before after → f after ≡ f before
  kept f keeps after each = ap f each.no_more ∙ looked_keeps f keeps each.scans before

  module _ (after : OperatorValue) (first count : ℕ) (sweeps : Sweeps before after first count) where
    number_scanned : number_after sweeps.scanned.view.log ≡ now.version
    number_scanned = kept (λ (o : OperatorValue). number_after o.view.log) (λ w x log o. refl) sweeps.scanned sweeps.each ∙ sym stands.version

    free_scanned : (m : ℕ) → m < now.version → IsFree the_shape m sweeps.scanned.view.log
    free_scanned m low =
        let number = stands.version in
        subst (λ (o : OperatorValue). IsFree the_shape m o.view.log) (sym sweeps.each.no_more) (still_free sweeps.each.scans m (free m (omega arith)))

    from_reported : first ≡ now.reported
    from_reported = sweeps.report.from ∙ sym stands.reported

    -- all versions before the current one are told by now
    up_to_current : first + count ≡ now.version
    up_to_current = let limited = stands.limited in let from = from_reported in ⊎_elim
        (λ below. let more = (sweeps.report.free (first + count) (omega arith)).0 (free_scanned (first + count) below) in absurd (omega arith))
        (λ up. ⊎_elim
        (λ above. let replaced = ((sweeps.report.free now.version (omega arith)).1 above).0 in let number = number_scanned in absurd (omega arith))
        (λ low. omega arith)
        (cases_lt now.version (first + count)))
        (cases_lt (first + count) now.version)

    stands_swept : (next : TextConfig) → AgreesNow next after.view → Stands after (record now { config = next; reported = first + count })
    stands_swept next agrees =
        let whole = up_to_current in
        let after_is = sweeps.reported in
        stands_on after next (first + count) agrees
        (ap (λ (o : OperatorValue). o.view.published) after_is ∙ kept (λ (o : OperatorValue). o.view.published) (λ w x log o. refl) sweeps.scanned sweeps.each)
        (ap (λ (o : OperatorValue). o.view.version_rows) after_is ∙ kept (λ (o : OperatorValue). o.view.version_rows) (λ w x log o. refl) sweeps.scanned sweeps.each)
        (ap (λ (o : OperatorValue). number_after o.view.log) after_is ∙ kept (λ (o : OperatorValue). number_after o.view.log) (λ w x log o. refl) sweeps.scanned sweeps.each)
        (sym (ap (λ (o : OperatorValue). o.reported) after_is)) (omega arith)

  -- ---- each answer comes in a script, and the operator stands where the script does then

  pub comes_and_stands : (line : List ℕ) (answer : LineAnswer) (next : TextConfig) (after : OperatorValue) → Answers now.version now.config line answer next → Does answer before after → AgreesNow next after.view
      → ComesInScript now answer × Stands after (standing_after now answer next)
  comes_and_stands line (Refused why) next after answers does agrees = let (comes, same) = refusal_comes why after does in (comes, stands_same after next same agrees)
  comes_and_stands line (LineRefused number why) next after answers does agrees = (tt, stands_same after next does agrees)
  comes_and_stands line (Published version) next after answers (config, publishes) agrees = (tt, stands_published after config publishes version next (next_number now.version now.config next line (Published version) answers) agrees)
  comes_and_stands line (Shown version groups members charge) next after answers does agrees = (tt, stands_same after next does agrees)
  comes_and_stands line (GroupRead version index groups key members selector) next after answers does agrees = (tt, stands_same after next does agrees)
  comes_and_stands line (MemberRead version index members id to filter locked) next after answers does agrees = (tt, stands_same after next does agrees)
  comes_and_stands line (WordsRead version place count words) next after answers does agrees = (tt, stands_same after next does agrees)
  comes_and_stands line (PacketJudged version judged) next after answers does agrees = (tt, stands_same after next does agrees)
  comes_and_stands line (PacketMalformed version why) next after answers does agrees = (tt, stands_same after next does agrees)
  comes_and_stands line (Swept reclaimed) next after answers does agrees = (
    (from_reported after reclaimed.first reclaimed.count does, up_to_current after reclaimed.first reclaimed.count does),
    stands_swept after reclaimed.first reclaimed.count does next agrees,
  )
