use Rattle.std.proofs.Common.{ap, arith, refl, subst, sym, ◌∙◌, ◌∷◌, ◌++◌, []}
use Rattle.config_image.specs.Pooled.{pooled_row}
use Rattle.test_table.proofs.PooledLemmas.{no_pages_held}
use Rattle.versions.specs.Free.{IsFreeRow, number_after}
use Rattle.versions.specs.Table.{the_shape}
use Rattle.read_section.specs.Operator.{OperatorValue}
use Rattle.read_section.proofs.FilledLemmas.{front_filled, row_inside}
use Rattle.test_table.proofs.tests.sections.fill_and_put.Goals as goal

pub loop-place-init : goal.loop-place-init
loop-place-init c = record { free = c.requires.free; number = refl; published = refl; table = refl; front = λ i low. absurd (omega arith) }

pub loop-place-preserved : goal.loop-place-preserved
loop-place-preserved c = let h = c.loop-place.invariant in let e = c.fill.ensures in let place = c.loop-place.place in
    let front = front_filled _ _ c.args.row place c.stored_word.result (row_inside c.args.row h.free.0) c.loop-place-test.true e.all_stored e.one_fill (pooled_row c.args.config []) c.stored_word.ensures.word_exact h.front in record {
      free = subst (λ (o : OperatorValue). IsFreeRow the_shape o.view c.args.row) (sym e.one_fill) h.free;
      number = ap (λ (o : OperatorValue). number_after o.view.log) e.one_fill ∙ h.number;
      published = ap (λ (o : OperatorValue). o.view.published) e.one_fill ∙ h.published;
      table = ap (λ (o : OperatorValue). o.table) e.one_fill ∙ h.table;
      front = front;
    }

pub put-requires-clause-free : goal.put-requires-clause-free
put-requires-clause-free c = c.loop-place.invariant.free

pub put-requires-clause-holds : goal.put-requires-clause-holds
put-requires-clause-holds c = let stop = c.loop-place-test.false in no_pages_held c.args.config c.requires.no_pages c.loop-place.operator c.args.row (λ i low. c.loop-place.invariant.front i (omega arith))

pub stored_word-requires-clause-pages : goal.stored_word-requires-clause-pages
stored_word-requires-clause-pages c = record { counted = sym c.requires.no_pages; below = λ k d inside. absurd (omega arith) }

pub put-requires-clause-number : goal.put-requires-clause-number
put-requires-clause-number c = let low = c.requires.number in let same = c.loop-place.invariant.number in omega arith

pub returns-clause-published : goal.returns-clause-published
returns-clause-published c = ap (λ (o : OperatorValue). o.view.published) c.put.ensures.one_publish ∙ ap (λ l. l ++ c.args.config ∷ []) c.loop-place.invariant.published

pub returns-clause-same_table : goal.returns-clause-same_table
returns-clause-same_table c = ap (λ (o : OperatorValue). o.table) c.put.ensures.one_publish ∙ c.loop-place.invariant.table
