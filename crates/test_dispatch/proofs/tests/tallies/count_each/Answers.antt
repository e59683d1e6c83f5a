use Rattle.std.proofs.Common.{List, ap, arith, length, subst, sym, ◌≡◌, ◌++◌, ◌∷◌, ◌∙◌, []}
use Rattle.std.proofs.lemmas.List.{length-append}
use Rattle.std.proofs.lemmas.List.Elements.{All-append, All-cons, All-head, All-tail}
use Rattle.std.specs.List.{All}
use Rattle.atomic_table.specs.Seated.{TableId}
use Rattle.dispatch.specs.Tally.{CounterValue}
use Rattle.test_dispatch.proofs.tests.tallies.count_each.Goals as goal

abbrev IsAt : TableId → CounterValue → Type 0
IsAt table counter = counter.table ≡ table

pub loop-counter-preserved : goal.loop-counter-preserved
loop-counter-preserved c =
    let h = c.loop-counter.invariant in let counted = c.count-in-loop-counter.new.counter in let next = c.in-Some.ensures.steps in
    let items : c.push.new.self.items ≡ c.loop-counter.back.items ++ counted ∷ [] = c.in_ok-push.ensures.items in
    let one = length-append c.loop-counter.back.items (counted ∷ []) in
    let longer = ap (λ (counters : List CounterValue). length counters) items in let so_far = h.2 in let fewer = next.1 in (
      tt,
      tt,
      omega arith,
      λ table all. let parts = h.3 table all in
          let rest = subst (λ (counters : List CounterValue). All (IsAt table) counters) next.0 parts.1 in
          let first = All-head (IsAt table) c.in-Some.counter c.next.new.self.rest.items rest in (
            subst (λ (counters : List CounterValue). All (IsAt table) counters) (sym items)
                (All-append (IsAt table) c.loop-counter.back.items (counted ∷ []) parts.0
                (All-cons (IsAt table) counted [] (c.count-in-loop-counter.ensures ∙ c.count.ensures ∙ first) (λ i d none. absurd (omega arith)))),
            All-tail (IsAt table) c.in-Some.counter c.next.new.self.rest.items rest,
          ),
    )

pub returns : goal.returns
returns c = λ table all.
    let h = c.loop-counter.invariant in let kept = h.2 in let ended = c.in-None.ensures.steps in let sixteen = all.count in let none_left = ended.0 in
    record { count = omega arith; same_table = (h.3 table all.same_table).0 }
