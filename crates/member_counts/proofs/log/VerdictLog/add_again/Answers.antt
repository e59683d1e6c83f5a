use Rattle.std.proofs.Common.{◌≡◌, ◌∙◌, Bool, List, ap, ap₂, arith, false, inl, inr, sym, true}
use Rattle.member_counts.specs.declared.counts.Counts.{Counts}
use Rattle.member_counts.specs.declared.key.CountKey.{CountKey}
use Rattle.member_counts.specs.declared.log.Run.{Run}
use Rattle.member_counts.specs.Counts.{no_counts, plus}
use Rattle.member_counts.specs.Key.{same_key}
use Rattle.member_counts.specs.Log.{Log, has_key}
use Rattle.member_counts.specs.body.Runs.{has_run, whole}
use Rattle.member_counts.proofs.KeyLemmas.{same_from_same_key}
use Rattle.member_counts.proofs.LogLemmas.{from-not, from-other, has-last_key, no-member, run-again, sum-none}
use Rattle.member_counts.proofs.log.VerdictLog.add_again.Goals as goal

pub returns-then-self-eq0-clause-again : goal.returns-then-self-eq0-clause-again
returns-then-self-eq0-clause-again c (inl room) = let none = c.if-self-eq0.true in let same = ap (λ (log : Log). log.room) c.self.view_is in absurd (omega (arith, room, none, same))
returns-then-self-eq0-clause-again c (inr some) =
    let inside = c.self.inside in
    no-member inside.last.key c.args.key.now (c.self.invariant.4 c.if-self-eq0.true) some
    ∙ sym (has-last_key c.args.key.now inside.earlier.items (has_run inside.has_counts inside.packed) (whole inside.last inside.packed) (λ none. (c.self.invariant.2 none).0))
    ∙ ap (λ (log : Log). has_key c.args.key.now log) c.self.view_is

pub returns-then-ne-clause-again : goal.returns-then-ne-clause-again
returns-then-ne-clause-again c room =
    let inside = c.self.inside in
    let other : false ≡ same_key inside.last.key c.args.key.now = from-other _ (sym c.ne.ensures ∙ c.if-ne.true) in
    other ∙ sym (has-last_key c.args.key.now inside.earlier.items (has_run inside.has_counts inside.packed) (whole inside.last inside.packed) (λ none. (c.self.invariant.2 none).0))
    ∙ ap (λ (log : Log). has_key c.args.key.now log) c.self.view_is

pub returns-clause-again : goal.returns-clause-again
returns-clause-again c room =
    let inside = c.self.inside in
    let own : same_key inside.last.key c.args.key.now ≡ true = from-not _ (sym c.ne.ensures ∙ c.if-ne.false) in
    sym own ∙ sym (has-last_key c.args.key.now inside.earlier.items (has_run inside.has_counts inside.packed) (whole inside.last inside.packed) (λ none. (c.self.invariant.2 none).0))
    ∙ ap (λ (log : Log). has_key c.args.key.now log) c.self.view_is

pub returns-clause-counted : goal.returns-clause-counted
returns-clause-counted c done =
    let inside = c.self.inside in
    let own : inside.last.key ≡ c.args.key.now = same_from_same_key inside.last.key c.args.key.now (from-not _ (sym c.ne.ensures ∙ c.if-ne.false)) in
    let sum : plus c.plus-self-inside.result no_counts ≡ plus (whole inside.last inside.packed).counts c.args.counts =
    ap (λ (counts : Counts). plus counts no_counts) (c.plus-self-inside.ensures ∙ ap (λ (run : Run). plus run.counts c.args.counts) c.whole.ensures)
    ∙ sum-none (whole inside.last inside.packed).counts c.args.counts in
    rw (← c.self.view_is)
    (let make : List Run → Bool → CountKey → Log = λ entries sent kept. record { entries = entries; room = inside.room; sent = sent; kept = kept } in
    ap₂ (λ (f : CountKey → Log) kept. f kept)
    (ap₂ make
    (run-again c.args.key.now c.args.counts inside.earlier.items inside.has_counts inside.last inside.packed (plus c.plus-self-inside.result no_counts)
    (λ none. ((c.self.invariant.2 none).0, (c.self.invariant.2 none).1)) c.self.invariant.3 own sum c.requires)
    c.ended_after-self-inside.ensures.sent)
    own)
