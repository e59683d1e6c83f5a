use Rattle.std.proofs.Common.{ap, arith, ◌∷◌, ◌∙◌, []}
use Rattle.std.proofs.lemmas.List.{length-append}
use Rattle.dispatch.specs.declared.tally_rule.CountView.{CountView}
use Rattle.dispatch.specs.Tally.{place_of, times}
use Rattle.dispatch.proofs.SumLemmas.{sum_of_counts-snoc, times-append}
use Rattle.dispatch.proofs.tally.take_all.Goals as goal

pub loop-counter-preserved : goal.loop-counter-preserved
loop-counter-preserved c =
    let h = c.loop-counter.invariant in let took = c.take_back.ensures in
    let longer = length-append c.loop-counter.yielded (c.in-Some.counter ∷ []) in
    let counters = ap (λ (v : CountView). v.counters) took.view in
    let had = h.2 in (
      tt,
      tt,
      omega arith,
      (λ kind. let added = ap (λ (v : CountView). times (place_of kind) v.added) took.view in
          let joined = times-append (place_of kind) c.in-Some.counter.log c.loop-counter.seat.me.0.added in
          let so_far = h.3 kind in let more = sum_of_counts-snoc kind c.loop-counter.yielded c.in-Some.counter in omega arith),
      ap (λ (v : CountView). v.loads) took.view ∙ h.4,
      took.seat,
    )
