use Rattle.std.proofs.Common.{refl}
use Rattle.std.proofs.lemmas.Bool.{false≢true}
use Rattle.control_line.proofs.HeadLemmas.{is_prefix, no_more, no_number, no_space, other_word}
use Rattle.control_line.proofs.head.split_version.Goals as goal

pub returns-in_err-word : goal.returns-in_err-word
returns-in_err-word c = rw c.from_residual.ensures (no_space c.args.text.now c.in_err-word.ensures)

pub returns-then-not-is_word : goal.returns-then-not-is_word
returns-then-not-is_word c = other_word c.args.text.now c.in_ok-word.word.now c.in_ok-word.fields.now c.in_ok-word.ensures (λ e. false≢true (c.if-not-is_word.ensures.1 e))

pub returns-in_err-version : goal.returns-in_err-version
returns-in_err-version c =
    rw c.from_residual-in_err-version.ensures (no_more c.args.text.now c.in_ok-word.word.now c.in_ok-word.fields.now c.in_ok-word.ensures c.in_err-version.ensures)

pub returns-in_err-read_version : goal.returns-in_err-read_version
returns-in_err-read_version c =
    rw c.from_residual-in_err-read_version.ensures
    (no_number c.args.text.now c.in_ok-word.word.now c.in_ok-word.fields.now c.in_ok-word.ensures c.in_ok-version.version.now c.in_ok-version.rest.now c.in_ok-version.ensures c.in_err-read_version.ensures)

pub returns : goal.returns
returns c = (
  c.in_ok-read_version.ensures.0,
  is_prefix c.args.text.now c.in_ok-word.word.now c.in_ok-word.fields.now c.in_ok-word.ensures c.in_ok-version.version.now c.in_ok-version.rest.now c.in_ok-version.ensures
      c.in_ok-read_version.field-0 (c.if-not-is_word.ensures.0 refl) c.in_ok-read_version.ensures.1,
)
