use Rattle.std.proofs.Common.{arith}
use Rattle.std.proofs.lemmas.Bool.{false≢true}
use Rattle.control_line.proofs.HeadLemmas.{no_count, no_start, no_start_space}
use Rattle.control_line.proofs.head.read_start.Goals as goal
use Rattle.control_line.proofs.head.read_start.Goals.{else-is_word-2-via-else-is_word-2, else-is_word-2-via-then-is_word-2+else-count-gt0}

pub returns-in_err-word : goal.returns-in_err-word
returns-in_err-word c = rw c.from_residual.ensures (no_start_space c.args.line.now c.in_err-word.ensures)

pub returns-in_err-count : goal.returns-in_err-count
returns-in_err-count c =
    rw c.from_residual-in_err-count.ensures (no_count c.args.line.now c.in_ok-word.word.now c.in_ok-word.number.now c.in_ok-word.ensures c.in_err-count.ensures)

pub returns : goal.returns
returns c =
    no_start c.args.line.now c.in_ok-word.word.now c.in_ok-word.number.now c.in_ok-word.ensures c.in_ok-count.count c.in_ok-count.ensures.0 c.in_ok-count.ensures.1
    (λ e. false≢true (c.if-is_word.ensures.1 e))
    (λ e. elim c.else-is_word-2.branch [
      | else-is_word-2-via-then-is_word-2+else-count-gt0 w ↦ omega (arith, w.if-count-gt0.false)
      | else-is_word-2-via-else-is_word-2 w ↦ absurd (false≢true (w.if-is_word-2.ensures.1 e))
    ])
