use Rattle.std.proofs.Common.{◌≡◌, ◌++◌, ◌∷◌, ◌∙◌, [], ap, ap₂, sym}
use Rattle.member_counts.specs.declared.counts.Counts.{Counts}
use Rattle.member_counts.specs.declared.log.Run.{Run}
use Rattle.member_counts.specs.Counts.{failed_one, no_counts, plus}
use Rattle.member_counts.specs.body.Runs.{has_run, is_sent, whole}
use Rattle.member_counts.proofs.LogLemmas.{failed-log, sent-none, sent-other, sum-none}
use Rattle.member_counts.proofs.log.VerdictLog.send_failed.Goals as goal

pub returns : goal.returns
returns c =
    let inside = c.self.inside in
    let sum : plus c.plus-self-inside.result no_counts ≡ plus (whole inside.last inside.packed).counts failed_one =
    ap (λ (counts : Counts). plus counts no_counts)
    (c.plus-self-inside.ensures ∙ ap₂ (λ (run : Run) (none : Counts). plus run.counts (record none { send_failed = 1 })) c.whole.ensures c.none.ensures)
    ∙ sum-none (whole inside.last inside.packed).counts failed_one in
    rw (← c.self.view_is)
    (ap (λ sent. record { entries = inside.earlier.items ++ record inside.last { counts = plus c.plus-self-inside.result no_counts } ∷ []; room = inside.room; sent = sent; kept = inside.last.key })
    c.ended_after-self-inside.ensures.sent
    ∙ failed-log inside.earlier.items (has_run inside.has_counts inside.packed) (whole inside.last inside.packed) inside.room
    (is_sent inside.packed inside.ended) inside.last.key (plus c.plus-self-inside.result no_counts)
    (sent-other inside.packed inside.ended (λ same. c.if-self.false (sym same)))
    (λ none. sent-none inside.packed inside.ended _ (c.self.invariant.2 none).1 (c.self.invariant.2 none).2) sum)
