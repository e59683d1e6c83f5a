use Rattle.std.proofs.Common.{Some, ap, arith, false, refl, slice_index, sym, true, ◌≡◌, ◌∙◌}
use Rattle.versions.specs.declared.step.Step.TheVariants.{Fetch}
use Rattle.versions.specs.declared.view.Stage.TheVariants.{Inside}
use Rattle.versions.specs.Table.{the_shape}
use Rattle.versions.proofs.DecisionLemmas.{fetch_below, fetch_word_of, held_form, word_place}
use Rattle.versions.proofs.MirrorLemmas.{next_of, no_worker}
use Rattle.versions.proofs.TraceLemmas.{Coheres-reached}
use Rattle.versions.proofs.progress.Progress.fetch_word.Goals as goal
use Rattle.versions.proofs.progress.Progress.fetch_word.Goals.{then-row-ge-ROWS-via-then-row-ge-ROWS, then-row-ge-ROWS-via-else-row-ge-ROWS+then-place-ge-TABLE_WORDS, then-row-ge-ROWS-via-else-row-ge-ROWS+else-place-ge-TABLE_WORDS+then-not-is_version_word}

true_false : true ≡ false → ⊥
true_false e = cc

pub returns-then-row-ge-ROWS : goal.returns-then-row-ge-ROWS
returns-then-row-ge-ROWS g c = λ s reached room m x legal. let held = c.in-Inside in let at = sym c.stage.ensures ∙ c.in_ok-row.was ∙ ap Some held.is in
    let form = held_form s reached c.args.words.now c.args.self.now m c.args.worker held.read_word held.version held.row at room in
    elim c.then-row-ge-ROWS.branch [
      | then-row-ge-ROWS-via-then-row-ge-ROWS w ↦ let up = w.if-row-ge-ROWS.true in let low = form.row_low in omega arith
      | then-row-ge-ROWS-via-else-row-ge-ROWS+then-place-ge-TABLE_WORDS w ↦
          let up = w.if-place-ge-TABLE_WORDS.true in let low = fetch_below s reached c.args.words.now c.args.self.now m c.args.worker held.read_word held.version held.row c.args.place at legal.1 in omega arith
      | then-row-ge-ROWS-via-else-row-ge-ROWS+else-place-ge-TABLE_WORDS+then-not-is_version_word w ↦
          true_false (sym ((w.is_version_word.ensures.word form.kept.config form.kept.pages form.holds form.room).1
          (fetch_word_of s reached c.args.words.now c.args.self.now m c.args.worker held.read_word held.version held.row c.args.place at form.kept legal.1)) ∙ w.if-not-is_version_word.true)
    ]

pub returns : goal.returns
returns g c = λ s reached room m. let held = c.in-Inside in let at = sym c.stage.ensures ∙ c.in_ok-row.was ∙ ap Some held.is in
    let form = held_form s reached c.args.words.now c.args.self.now m c.args.worker held.read_word held.version held.row at room in (
      next_of the_shape s c.args.words.now c.args.self.now m (Coheres-reached the_shape s reached) c.args.worker (Inside held.read_word held.version held.row) (Fetch c.args.worker c.args.place) (slice_index c.args.words.now c.args.place) at (held.read_word, held.version, held.row, refl),
      word_place s reached c.args.words.now c.args.self.now m c.args.worker held.read_word held.version held.row c.args.place at form.kept
          ((c.is_version_word.ensures.word form.kept.config form.kept.pages form.holds form.room).0 c.if-not-is_version_word.false),
      ap (λ l. slice_index l c.args.place) m.words_same,
    )

pub returns-in_err-row : goal.returns-in_err-row
returns-in_err-row g c = λ s reached room m. rw c.from_residual.ensures (λ x legal.
    no_worker the_shape s c.args.words.now c.args.self.now m c.args.worker (Fetch c.args.worker c.args.place) x (sym c.stage.ensures ∙ c.in_err-row.was) legal.0)
