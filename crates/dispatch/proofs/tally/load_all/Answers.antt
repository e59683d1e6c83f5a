use Rattle.std.proofs.Common.{◌≡◌, ◌<◌, ◌∙◌, ◌∷◌, ap, arith, length, slice_index, slice_set, subst, sym, ℕ, rules}
use mathlib.Core.Logic.{dite}
use native.Mathlib.Decide.{ℕ_discrete}
use Rattle.std.proofs.lemmas.List.{get_or-set_other, get_or-set_same, length-set}
use Rattle.std.specs.List.{Contains}
use Rattle.std.specs.Prelude.{List}
use Rattle.atomic_table.specs.Table.{Me}
use Rattle.dispatch.specs.declared.tally_rule.CountView.{CountView}
use Rattle.dispatch.specs.declared.tally_rule.Load.{Load}
use Rattle.dispatch.specs.Tally.{GaveAtMost, times}
use Rattle.dispatch.proofs.SumLemmas.{contains_below, loaded_below-set}
use Rattle.dispatch.proofs.TallyLemmas.{allows_read}
use Rattle.dispatch.proofs.tally.load_all.Goals as goal

pub load-requires : goal.load-requires
load-requires c =
    let seat = c.loop-place.invariant.4 in let seven = seat.words in let low = c.loop-place-test.true in
    (seat.same_table, omega arith, allows_read c.args.table.now.shared.table_id.slots c.loop-place.seat.id c.loop-place.place c.loop-place.seat.me low)

pub loop-place-preserved : goal.loop-place-preserved
loop-place-preserved c =
    let h = c.loop-place.invariant in let low = c.loop-place-test.true in let read = c.load.ensures.2 in let seat = h.4 in
    let counts = c.loop-place.counts in let i = c.loop-place.place in let word = c.load.result in let old = c.args.seat.now.me.0 in
    let inside : i < length counts = (let long = h.0 in omega arith) in
    let here = get_or-set_same counts i word 0 inside in
    let least : GaveAtMost old.loads i word =
    λ load in_log at. read.no_less low load (subst (λ (v : CountView). Contains v.loads load) (sym h.1) (contains_below i counts old.loads load in_log)) at in (
      length-set counts i word ∙ h.0,
      ap (λ (m : Me ℕ CountView). m.0) read.one_load
          ∙ ap (λ (v : CountView). record v { loads = record { place = i; word = word } ∷ v.loads }) h.1
          ∙ ap (λ (loads : List Load). record old { loads = loads }) (sym (loaded_below-set counts i word old.loads inside)),
      (λ all place below. dite (ℕ_discrete place i)
          (λ same. subst (λ (p : ℕ). slice_index (slice_set counts i word) p ≡ times p old.added) (sym same)
          (here ∙ read.all low (ap (λ (v : CountView). v.counters) h.1 ∙ all) ∙ ap (λ (v : CountView). times i v.added) h.1))
          (λ apart. get_or-set_other counts i place word 0 apart ∙ h.2 all place (omega arith))),
      (λ place below. dite (ℕ_discrete place i)
          (λ same. subst (λ (p : ℕ). GaveAtMost old.loads p (slice_index (slice_set counts i word) p)) (sym same) (subst (λ w. GaveAtMost old.loads i w) (sym here) least))
          (λ apart. subst (λ w. GaveAtMost old.loads place w) (sym (get_or-set_other counts i place word 0 apart)) (h.3 place (omega arith)))),
      record { no_slots = ap (λ (m : Me ℕ CountView). m.1) read.one_load ∙ seat.no_slots; same_table = c.load.ensures.0 ∙ seat.same_table; words = seat.words },
    )

pub returns-clause-no_less : goal.returns-clause-no_less
returns-clause-no_less c = search rules

pub returns-clause-sums : goal.returns-clause-sums
returns-clause-sums c = search rules

pub returns-clause-view : goal.returns-clause-view
returns-clause-view c = search rules
