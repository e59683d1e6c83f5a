use Rattle.std.proofs.Common.{codes, refl}
use Rattle.std.proofs.lemmas.Bool.{false≢true}
use Rattle.control_line.proofs.ReadingLemmas.{no_reading_request}
use Rattle.control_line.proofs.RequestLemmas.{no_request}
use Rattle.control_line.proofs.request.read_fields.Goals as goal

pub returns-in_err-read_group : goal.returns-in_err-read_group
returns-in_err-read_group c =
    rw c.from_residual.ensures
    (no_reading_request c.args.word.now c.args.fields.now (codes "group") c.requires (c.if-is_word.ensures.0 refl) refl c.in_err-read_group.ensures)

pub returns-in_err-read_member : goal.returns-in_err-read_member
returns-in_err-read_member c =
    rw c.from_residual-in_err-read_member.ensures
    (no_reading_request c.args.word.now c.args.fields.now (codes "member") c.requires (c.if-is_word-2.ensures.0 refl) refl c.in_err-read_member.ensures)

pub returns-in_err-read_words : goal.returns-in_err-read_words
returns-in_err-read_words c =
    rw c.from_residual-in_err-read_words.ensures
    (no_reading_request c.args.word.now c.args.fields.now (codes "words") c.requires (c.if-is_word-3.ensures.0 refl) refl c.in_err-read_words.ensures)

pub returns-in_err-read_command : goal.returns-in_err-read_command
returns-in_err-read_command c =
    rw c.from_residual-in_err-read_command.ensures
    (no_request c.args.word.now c.args.fields.now c.requires (λ e. false≢true (c.if-is_word.ensures.1 e)) (λ e. false≢true (c.if-is_word-2.ensures.1 e)) (λ e. false≢true (c.if-is_word-3.ensures.1 e)) (λ e. false≢true (c.if-is_word-4.ensures.1 e))
    c.in_err-read_command.ensures)
