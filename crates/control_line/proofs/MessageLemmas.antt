-- The reply to a block, and what it leaves.
use Rattle.std.proofs.Common.{◌≡◌, ◌≢◌, ◌∙◌, ◌<◌, ◌≤◌, List, [], ap, arith, length, refl, subst, sym, ℕ}
use Rattle.std.specs.Prelude.{IfSome}
use Rattle.config_image.specs.Image.{Group}
use Rattle.versions.specs.Free.{number_after}
use Rattle.versions.specs.declared.view.OperatorView.{OperatorView}
use Rattle.read_section.specs.Operator.{OperatorValue}
use Rattle.control_line.specs.declared.TheConstants.{BLOCK_LIMIT}
use Rattle.control_line.specs.declared.block.BlockFault.{BlockFault}
use Rattle.control_line.specs.declared.head.Head.{Head}
use Rattle.control_line.specs.declared.head.Start.{Start}
use Rattle.control_line.specs.declared.head.Start.TheVariants.{Current, Empty}
use Rattle.control_line.specs.declared.program.LineFault.{LineFault}
use Rattle.control_line.specs.declared.program.LineFault.TheVariants as failure_of
use Rattle.control_line.specs.declared.reason.Reason.{Reason}
use Rattle.control_line.specs.declared.reason.Reason.TheVariants as reason
use Rattle.control_line.specs.declared.reply.LineAnswer.{LineAnswer}
use Rattle.control_line.specs.declared.reply.LineAnswer.TheVariants.{LineRefused, Refused}
use Rattle.control_line.specs.Agrees.{Agrees, AgreesNow, TextConfig}
use Rattle.filter_program.specs.Program.{IsProgramFor}
use Rattle.control_line.specs.Answer.{AsksForChange, IsAnswered, IsFirstRefused, all_made, bad_form, changed_together, config_at, line_refused, numbered, other_version, replied, too_long}
use Rattle.control_line.specs.Block.{HasHead, IsBlock, IsTooLong, Message, SpellsMessage, after_line_feeds, block, for_version, head_text, long_block, long_line, single}
use Rattle.control_line.specs.Request.{change, read}
use Rattle.control_line.specs.body.Blocks.{AreDone, AreLines, IsFaultAt, IsFirstFault, IsOther, IsStart, reply_to_fault, reply_to_line}
use Rattle.control_line.specs.body.Making.{IsOutcome, IsPublication}
use Rattle.control_line.proofs.BlockLemmas.{line_cut, one_lines}
use Rattle.control_line.proofs.ChangeLemmas.{agrees_with}
use Rattle.control_line.proofs.HeadLemmas.{lacks-head}
use Rattle.control_line.proofs.OneMessageLemmas.{no_line, no_version_line, one_head}

start_agrees : (start : Start) (view : OperatorView (List Group)) (real : List Group) → IsStart start view real → (config : TextConfig) → AgreesNow config view → Agrees (config_at start config) real
start_agrees Current view real current config agrees = agrees_with config view real current agrees
start_agrees Empty view real none config agrees = ([], refl, none)

module _ (text : List ℕ) (head : Head) (rest : List ℕ) (has : HasHead text head rest) (before : OperatorValue) where
  -- the first line and the rest are found in one way
  same_parts : (other : Head) (more : List ℕ) → HasHead text other more → (head ≡ other) × (rest ≡ more)
  same_parts other more also =
      let cut = line_cut (head_text head) (head_text other) rest more (lacks-head head) (lacks-head other) has.ends_line also.ends_line (sym has.whole ∙ also.whole) in
      (one_head head other has.is_head also.is_head cut.0, cut.1)

  pub block_too_long : BLOCK_LIMIT < length rest → IsAnswered text before before (Refused reason.LineTooLong)
  block_too_long above = record {
    steps = refl;
    read_back = λ reading small spells. absurd (no_line text head rest has (read reading) spells);
    text = λ config agrees. (config, too_long (long_block head rest has above), agrees);
  }

  module _ (short : length rest ≤ BLOCK_LIMIT) where
    not_long : IsTooLong text → ⊥
    not_long (long_block other more also above) = let same = ap length (same_parts other more also).1 in omega arith
    not_long (long_line none above) = none head rest has

    pub block_bad_form : (lines : List (List ℕ)) → AreLines rest lines → length lines ≢ head.count → IsAnswered text before before (Refused reason.BadForm)
    block_bad_form lines are wrong = record {
      steps = refl;
      read_back = λ reading small spells. absurd (no_line text head rest has (read reading) spells);
      text = λ config agrees. (config, bad_form not_long no_message, agrees);
    }
      where
        no_message : (message : Message) → SpellsMessage text message → ⊥
        no_message (single request) spells = no_line text head rest has request spells
        no_message (for_version v command) spells = no_version_line text head rest has v spells.1 (change command) spells.0 spells.2 spells.3
        no_message (block other more) is =
            let same = same_parts other (after_line_feeds more) is.has_head in
            let lines_same : lines ≡ more = one_lines lines more are.are_lines is.are_lines (sym are.whole ∙ same.1) in
            wrong (ap length lines_same ∙ is.count ∙ ap (λ (h : Head). h.count) (sym same.0))

    module _ (lines : List (List ℕ)) (are : AreLines rest lines) (count : length lines ≡ head.count) where
      is_block : IsBlock text head lines
      is_block = record { has_head = subst (HasHead text head) are.whole has; are_lines = are.are_lines; count = count }

      pub block_asks : AsksForChange text
      block_asks = (block head lines, is_block, tt)

      pub block_other : IsOther head.version (number_after before.view.log) → IsAnswered text before before (Refused (reason.OtherVersion (number_after before.view.log)))
      block_other (wanted, is, other) = record {
        steps = refl;
        read_back = λ reading small spells. absurd (no_line text head rest has (read reading) spells);
        text = λ config agrees. (config, replied (block head lines) _ _ not_long is_block (other_version (block head lines) wanted is other), agrees);
      }

      module _ (meant : IfSome head.version (λ version. version ≡ number_after before.view.log)) (real : List Group) (start : IsStart head.start before.view real) where
        block_refused : (number : ℕ) (why : Reason) → ((config : TextConfig) → Agrees config real → IsFirstRefused IsProgramFor config (numbered 1 lines) number why) → IsAnswered text before before (LineRefused number why)
        block_refused number why first = record {
          steps = refl;
          read_back = λ reading small spells. absurd (no_line text head rest has (read reading) spells);
          text = λ config agrees. (
            config,
            replied (block head lines) _ _ not_long is_block
                (changed_together head lines _ _ meant (line_refused number why (first (config_at head.start config) (start_agrees head.start before.view real start config agrees)))),
            agrees,
          );
        }

        pub block_failed : (fault : BlockFault) → IsFirstFault real lines fault → IsOutcome (IsAnswered text) before before (reply_to_fault fault)
        block_failed fault is = by_fault fault.fault is
          where
            by_fault : (why : LineFault) → IsFaultAt real lines fault.line why → IsOutcome (IsAnswered text) before before (reply_to_line fault.line why)
            by_fault (failure_of.Refused why) is = block_refused fault.line why is
            by_fault failure_of.OutOfMemory is = refl

        pub block_published : (next : List Group) (after : OperatorValue) (answer : LineAnswer) → AreDone real lines next → IsPublication next before after answer → IsAnswered text before after answer
        block_published next after answer done publication = record {
          steps = publication.steps;
          read_back = λ reading small spells. absurd (no_line text head rest has (read reading) spells);
          text = λ config agrees.
              let made = done (config_at head.start config) (start_agrees head.start before.view real start config agrees) in
              let left = publication.text config made.0 agrees made.2 in
              (left.0, replied (block head lines) _ _ not_long is_block (changed_together head lines _ _ meant (all_made made.0 answer left.0 made.1 left.1)), left.2);
        }
