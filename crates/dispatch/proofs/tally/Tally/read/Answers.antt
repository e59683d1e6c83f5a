use Rattle.std.proofs.Common.{ap, arith, subst, sym, ◌∙◌, rules}
use Rattle.atomic_table.specs.Seated.{TableId}
use Rattle.dispatch.specs.Tally.{GaveAtMost, TallyValue, place_of}
use Rattle.dispatch.proofs.TallyLemmas.{allows_read, place_low}
use Rattle.dispatch.proofs.tally.Tally.read.Goals as goal

pub load-requires : goal.load-requires
load-requires c =
    let h = c.self.invariant in let shared = c.deref.result.now.shared in
    let lent = ap (λ t. t.shared.table_id) c.deref.ensures in
    let low = place_low c.args.kind in let is = c.place.ensures in let words = ap (λ (t : TableId). t.words) lent in let seven = h.1.words in
    (h.1.same_table ∙ sym lent, omega arith, allows_read shared.table_id.slots c.self.inside.seat.id c.place.result c.self.inside.seat.me (omega arith))

pub returns-clause-no_less : goal.returns-clause-no_less
returns-clause-no_less c =
    let low = place_low c.args.kind in let is = c.place.ensures in
    let gave = c.load.ensures.2.no_less (omega arith) in
    subst (λ (t : TallyValue). GaveAtMost t.log (place_of c.args.kind) c.load.result) c.self.view_is
    (subst (λ place. GaveAtMost c.self.inside.seat.me.0.loads place c.load.result) is gave)

pub returns-clause-one_load : goal.returns-clause-one_load
returns-clause-one_load c = search rules
