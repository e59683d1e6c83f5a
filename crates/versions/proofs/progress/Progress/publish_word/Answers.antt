use Rattle.std.proofs.Common.{ap, false, sym, true, ◌≡◌, ◌∙◌, arith}
use Rattle.std.specs.Option.{option_map}
use Rattle.versions.proofs.DecisionLemmas.{can_publish, holds_proposed, number_low, publish_word}
use Rattle.versions.proofs.progress.Progress.publish_word.Goals as goal
use Rattle.versions.proofs.progress.Progress.publish_word.Goals.{then-not-is_free-via-then-not-is_free, then-not-is_free-via-else-not-is_free+then-self-ge-LAST_NUMBER, then-not-is_free-via-else-not-is_free+else-self-ge-LAST_NUMBER+then-not-holds_form}

true_false : true ≡ false → ⊥
true_false e = cc

pub returns-then-not-is_free : goal.returns-then-not-is_free
returns-then-not-is_free g c = λ s reached room m proposed x legal.
    elim c.then-not-is_free.branch [
      | then-not-is_free-via-then-not-is_free w ↦ true_false (sym ((c.is_free.ensures.free_row_exact s.operator m.book).1 legal.0.free) ∙ w.if-not-is_free.true)
      | then-not-is_free-via-else-not-is_free+then-self-ge-LAST_NUMBER w ↦
          let up = w.if-self-ge-LAST_NUMBER.true in let low = number_low s reached c.args.words.now c.args.self.now m c.args.row legal.0 in absurd (omega arith)
      | then-not-is_free-via-else-not-is_free+else-self-ge-LAST_NUMBER+then-not-holds_form w ↦
          true_false (sym (w.holds_form.ensures.holds.1 (holds_proposed s reached c.args.words.now c.args.self.now m c.args.row c.in-Some.config.now (proposed ∙ ap (option_map (λ config. config.now)) c.in-Some.is) legal.0)) ∙ w.if-not-holds_form.true)
    ]

pub returns : goal.returns
returns g c = λ s reached room m proposed. (
  can_publish s reached c.args.words.now c.args.self.now m c.args.row c.in-Some.config.now (proposed ∙ ap (option_map (λ config. config.now)) c.in-Some.is) ((c.is_free.ensures.free_row_exact s.operator m.book).0 c.if-not-is_free.false) c.if-self-ge-LAST_NUMBER.false (c.holds_form.ensures.holds.0 c.if-not-holds_form.false),
  c.current_word.ensures ∙ publish_word s reached c.args.words.now c.args.self.now m c.args.row,
)
