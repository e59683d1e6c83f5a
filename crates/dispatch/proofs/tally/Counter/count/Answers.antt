use Rattle.std.proofs.Common.{ap, arith, sym, ◌∙◌, rules}
use Rattle.atomic_table.specs.Seated.{TableId}
use Rattle.dispatch.proofs.TallyLemmas.{allows_count, place_low}
use Rattle.dispatch.proofs.tally.Counter.count.Goals as goal

pub fetch_add-requires : goal.fetch_add-requires
fetch_add-requires c =
    let h = c.self.invariant in let shared = c.deref.result.now.shared in
    let lent = ap (λ t. t.shared.table_id) c.deref.ensures in
    let low = place_low c.args.kind in let is = c.place.ensures in let words = ap (λ (t : TableId). t.words) lent in let seven = h.1.words in
    let one = h.0.one in let count = h.0.counted in let limited = h.0.limited in let not_full = c.if-self-eq-COUNT_LIMIT.false in (
      h.1.same_table ∙ sym lent,
      omega arith,
      allows_count shared.table_id.slots c.self.inside.seat.id c.place.result c.self.inside.seat.me (omega arith) (omega arith),
    )

pub returns-clause-count_full : goal.returns-clause-count_full
returns-clause-count_full c = search rules

pub returns-clause-one_count : goal.returns-clause-one_count
returns-clause-one_count c = search rules

pub returns-then-self-eq-COUNT_LIMIT-clause-count_full : goal.returns-then-self-eq-COUNT_LIMIT-clause-count_full
returns-then-self-eq-COUNT_LIMIT-clause-count_full c = search rules

pub returns-then-self-eq-COUNT_LIMIT-clause-one_count : goal.returns-then-self-eq-COUNT_LIMIT-clause-one_count
returns-then-self-eq-COUNT_LIMIT-clause-one_count c = search rules
