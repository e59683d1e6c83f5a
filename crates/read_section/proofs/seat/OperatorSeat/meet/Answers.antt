use Rattle.std.proofs.Common.{List, ap, refl, subst, sym, ◌+◌, ◌<◌, ◌∙◌, ℕ}
use Rattle.atomic_table.specs.Seated.{TableId}
use Rattle.config_image.specs.Image.{Group}
use Rattle.versions.specs.declared.step.Entry.{Entry}
use Rattle.versions.specs.declared.view.WorkerView.{WorkerView}
use Rattle.versions.specs.Legal.{MayPeek}
use Rattle.versions.specs.Table.{the_shape}
use Rattle.read_section.specs.body.Seat.{OperatorSeatValue, operator_or_none}
use Rattle.read_section.specs.body.Steps.{Sees}
use Rattle.read_section.specs.View.{TellsLog}
use Rattle.read_section.specs.body.SeatView.{worker_alone}
use Rattle.read_section.specs.Worker.{WorkerValue}
use Rattle.read_section.proofs.MeetingLemmas.{IsOperatorSeat-again, IsWorkerSeat-again, may_give, may_give_back, may_peek_both, may_scan_both, may_take, operator_is, operator_met, peeked, scanned_both, taken, worker_is, worker_met}
use Rattle.read_section.proofs.WorkerSeatLemmas.{IsSeatAt-on, Seated, few_words, read_word_inside, some_word}
use Rattle.read_section.proofs.seat.OperatorSeat.meet.Goals as goal

pub split_seat-moved-requires : goal.split_seat-moved-requires
split_seat-moved-requires c = let h = c.self.invariant in let k = c.worker.invariant in let shared = c.deref.result.now.shared in let own = h.1.same_table ∙ sym (ap (λ t. t.shared.table_id) c.deref.ensures) in
    let worker_own = ap (λ (w : WorkerValue). w.table) c.worker.view_is ∙ (c.requires.table ∙ (sym (ap (λ (o : OperatorSeatValue). o.table) c.self.view_is) ∙ own)) in
    let some = subst (λ (t : TableId). 0 < t.words) own (some_word _ _ _ h.1) in
    (worker_own, some, may_give shared.key 0 c.worker.inside.seat.id _ _ k.0)

pub join_seat-requires : goal.join_seat-requires
join_seat-requires c = let h = c.self.invariant in let k = c.worker.invariant in let shared = c.deref.result.now.shared in let own = h.1.same_table ∙ sym (ap (λ t. t.shared.table_id) c.deref.ensures) in
    let worker_own = ap (λ (w : WorkerValue). w.table) c.worker.view_is ∙ (c.requires.table ∙ (sym (ap (λ (o : OperatorSeatValue). o.table) c.self.view_is) ∙ own)) in
    let some = subst (λ (t : TableId). 0 < t.words) own (some_word _ _ _ h.1) in let e = c.split_seat-moved.ensures in
    (own, e.3 ∙ worker_own, ap (λ (m : Seated). m.1) e.4, some, may_take shared.key 0 c.self.inside.seat.id _ c.split_seat-moved.result.id c.worker.inside.seat.me.0 _ _ h.0 k.0 (ap (λ (m : Seated). m.0) e.4))

pub load-requires : goal.load-requires
load-requires c = let h = c.self.invariant in let k = c.worker.invariant in let shared = c.deref.result.now.shared in let own = h.1.same_table ∙ sym (ap (λ t. t.shared.table_id) c.deref.ensures) in
    let worker_own = ap (λ (w : WorkerValue). w.table) c.worker.view_is ∙ (c.requires.table ∙ (sym (ap (λ (o : OperatorSeatValue). o.table) c.self.view_is) ∙ own)) in
    let some = subst (λ (t : TableId). 0 < t.words) own (some_word _ _ _ h.1) in let e = c.split_seat-moved.ensures in let j = c.join_seat.ensures in let one = taken _ _ c.worker.inside.number c.join_seat.new.seat.me c.split_seat-moved.result.me _ h.0 k.0 (ap (λ (m : Seated). m.0) e.4) j.2 in
    (j.0 ∙ own, some, may_peek_both shared.key shared.table_id.slots c.join_seat.new.seat.id _ _ _ one (subst (λ (w : WorkerValue). MayPeek w.view.stage) (sym c.worker.view_is) c.requires.stage))

pub read_word_place-requires : goal.read_word_place-requires
read_word_place-requires c = few_words _ _ c.worker.invariant.0

pub load-word-requires : goal.load-word-requires
load-word-requires c = let h = c.self.invariant in let k = c.worker.invariant in let shared = c.deref.result.now.shared in let own = h.1.same_table ∙ sym (ap (λ t. t.shared.table_id) c.deref.ensures) in
    let worker_own = ap (λ (w : WorkerValue). w.table) c.worker.view_is ∙ (c.requires.table ∙ (sym (ap (λ (o : OperatorSeatValue). o.table) c.self.view_is) ∙ own)) in
    let some = subst (λ (t : TableId). 0 < t.words) own (some_word _ _ _ h.1) in let e = c.split_seat-moved.ensures in let j = c.join_seat.ensures in let one = taken _ _ c.worker.inside.number c.join_seat.new.seat.me c.split_seat-moved.result.me _ h.0 k.0 (ap (λ (m : Seated). m.0) e.4) j.2 in let t = (c.load.ensures.2 _ one.worker_known).1 in let two = peeked _ c.load.new.seat.me _ _ _ one t.2 in
    rw c.read_word_place.ensures (c.load.ensures.0 ∙ (j.0 ∙ own), subst (λ (t : TableId). 1 + c.worker.inside.number < t.words) own (read_word_inside _ _ _ h.1 c.worker.inside.number k.0.below), may_scan_both shared.key shared.table_id.slots c.load.new.seat.id _ _ _ c.worker.inside.number two k.0.below)

pub split_seat-requires : goal.split_seat-requires
split_seat-requires c = let h = c.self.invariant in let k = c.worker.invariant in let shared = c.deref.result.now.shared in let own = h.1.same_table ∙ sym (ap (λ t. t.shared.table_id) c.deref.ensures) in
    let worker_own = ap (λ (w : WorkerValue). w.table) c.worker.view_is ∙ (c.requires.table ∙ (sym (ap (λ (o : OperatorSeatValue). o.table) c.self.view_is) ∙ own)) in
    let some = subst (λ (t : TableId). 0 < t.words) own (some_word _ _ _ h.1) in let e = c.split_seat-moved.ensures in let j = c.join_seat.ensures in let one = taken _ _ c.worker.inside.number c.join_seat.new.seat.me c.split_seat-moved.result.me _ h.0 k.0 (ap (λ (m : Seated). m.0) e.4) j.2 in let t = (c.load.ensures.2 _ one.worker_known).1 in let two = peeked _ c.load.new.seat.me _ _ _ one t.2 in let u = c.load-word.ensures.2 _ two.operator_known c.worker.inside.number c.read_word_place.ensures in let three = scanned_both _ c.load-word.new.seat.me _ _ _ two u.3 in
    (c.load-word.ensures.0 ∙ (c.load.ensures.0 ∙ (j.0 ∙ own)), some, may_give_back shared.key 0 c.load-word.new.seat.id _ _ _ three)

pub invariant_of-self : goal.invariant_of-self
invariant_of-self c = let h = c.self.invariant in let k = c.worker.invariant in let shared = c.deref.result.now.shared in let own = h.1.same_table ∙ sym (ap (λ t. t.shared.table_id) c.deref.ensures) in
    let worker_own = ap (λ (w : WorkerValue). w.table) c.worker.view_is ∙ (c.requires.table ∙ (sym (ap (λ (o : OperatorSeatValue). o.table) c.self.view_is) ∙ own)) in
    let e = c.split_seat-moved.ensures in let j = c.join_seat.ensures in let one = taken _ _ c.worker.inside.number c.join_seat.new.seat.me c.split_seat-moved.result.me _ h.0 k.0 (ap (λ (m : Seated). m.0) e.4) j.2 in let t = (c.load.ensures.2 _ one.worker_known).1 in let two = peeked _ c.load.new.seat.me _ _ _ one t.2 in let u = c.load-word.ensures.2 _ two.operator_known c.worker.inside.number c.read_word_place.ensures in let three = scanned_both _ c.load-word.new.seat.me _ _ _ two u.3 in let same = c.load-word.ensures.0 ∙ (c.load.ensures.0 ∙ j.0) in let q = c.split_seat.ensures in let left = ap (λ (m : Seated). m.0) q.2 in let back = ap (λ (m : Seated). m.0) q.4 in
    let joined = IsSeatAt-on _ _ _ h.1 c.join_seat.new.seat.me _ _ j.0 j.2 in let loaded = IsSeatAt-on _ _ _ joined c.load.new.seat.me _ _ c.load.ensures.0 t.2 in let scanned = IsSeatAt-on _ _ _ loaded c.load-word.new.seat.me _ _ c.load-word.ensures.0 u.3 in
    (IsOperatorSeat-again _ c.split_seat.new.seat.me _ _ three left, IsSeatAt-on _ _ _ scanned c.split_seat.new.seat.me _ _ q.0 q.2)

pub invariant_of-worker : goal.invariant_of-worker
invariant_of-worker c = let h = c.self.invariant in let k = c.worker.invariant in let shared = c.deref.result.now.shared in let own = h.1.same_table ∙ sym (ap (λ t. t.shared.table_id) c.deref.ensures) in
    let worker_own = ap (λ (w : WorkerValue). w.table) c.worker.view_is ∙ (c.requires.table ∙ (sym (ap (λ (o : OperatorSeatValue). o.table) c.self.view_is) ∙ own)) in
    let e = c.split_seat-moved.ensures in let j = c.join_seat.ensures in let one = taken _ _ c.worker.inside.number c.join_seat.new.seat.me c.split_seat-moved.result.me _ h.0 k.0 (ap (λ (m : Seated). m.0) e.4) j.2 in let t = (c.load.ensures.2 _ one.worker_known).1 in let two = peeked _ c.load.new.seat.me _ _ _ one t.2 in let u = c.load-word.ensures.2 _ two.operator_known c.worker.inside.number c.read_word_place.ensures in let three = scanned_both _ c.load-word.new.seat.me _ _ _ two u.3 in let same = c.load-word.ensures.0 ∙ (c.load.ensures.0 ∙ j.0) in let q = c.split_seat.ensures in let left = ap (λ (m : Seated). m.0) q.2 in let back = ap (λ (m : Seated). m.0) q.4 in (
      IsWorkerSeat-again _ c.split_seat.result.me _ _ c.worker.inside.number three back k.0.numbered k.0.below,
      IsSeatAt-on _ _ _ k.1 c.split_seat.result.me _ _ (q.3 ∙ (same ∙ (own ∙ sym worker_own))) (q.4 ∙ (λ i. let m : Seated = (worker_alone the_shape c.load-word.new.seat.me.0, sym k.1.no_slots i) in m)),
    )

pub returns-clause-worker : goal.returns-clause-worker
returns-clause-worker c = let h = c.self.invariant in let k = c.worker.invariant in let shared = c.deref.result.now.shared in let own = h.1.same_table ∙ sym (ap (λ t. t.shared.table_id) c.deref.ensures) in
    let worker_own = ap (λ (w : WorkerValue). w.table) c.worker.view_is ∙ (c.requires.table ∙ (sym (ap (λ (o : OperatorSeatValue). o.table) c.self.view_is) ∙ own)) in
    let e = c.split_seat-moved.ensures in let j = c.join_seat.ensures in let one = taken _ _ c.worker.inside.number c.join_seat.new.seat.me c.split_seat-moved.result.me _ h.0 k.0 (ap (λ (m : Seated). m.0) e.4) j.2 in let t = (c.load.ensures.2 _ one.worker_known).1 in let two = peeked _ c.load.new.seat.me _ _ _ one t.2 in let u = c.load-word.ensures.2 _ two.operator_known c.worker.inside.number c.read_word_place.ensures in let three = scanned_both _ c.load-word.new.seat.me _ _ _ two u.3 in let same = c.load-word.ensures.0 ∙ (c.load.ensures.0 ∙ j.0) in let q = c.split_seat.ensures in let left = ap (λ (m : Seated). m.0) q.2 in let back = ap (λ (m : Seated). m.0) q.4 in
    let published = ap (λ (o : OperatorSeatValue). o.view.published) c.self.view_is in let all = t.1.all _ one.operator_known ∙ published in (
      c.load.result,
      subst (Sees c.args.worker.now c.load.result) all (subst (λ (w : WorkerValue). Sees w c.load.result t.0) c.worker.view_is record { shows = t.1.shows; publishable = t.1.publishable; own_log = t.1.own }),
      worker_met c.worker.inside.seat.table_id c.split_seat.result.table_id c.split_seat.result.me.0 _ _ c.load.result t.0 _ c.args.worker.now (q.3 ∙ (same ∙ (own ∙ sym worker_own))) (worker_is _ c.split_seat.result.me _ _ three back) refl all c.worker.view_is,
    )

pub returns-clause-operator : goal.returns-clause-operator
returns-clause-operator c = let h = c.self.invariant in let k = c.worker.invariant in let shared = c.deref.result.now.shared in let own = h.1.same_table ∙ sym (ap (λ t. t.shared.table_id) c.deref.ensures) in
    let worker_own = ap (λ (w : WorkerValue). w.table) c.worker.view_is ∙ (c.requires.table ∙ (sym (ap (λ (o : OperatorSeatValue). o.table) c.self.view_is) ∙ own)) in
    let e = c.split_seat-moved.ensures in let j = c.join_seat.ensures in let one = taken _ _ c.worker.inside.number c.join_seat.new.seat.me c.split_seat-moved.result.me _ h.0 k.0 (ap (λ (m : Seated). m.0) e.4) j.2 in let t = (c.load.ensures.2 _ one.worker_known).1 in let two = peeked _ c.load.new.seat.me _ _ _ one t.2 in let u = c.load-word.ensures.2 _ two.operator_known c.worker.inside.number c.read_word_place.ensures in let three = scanned_both _ c.load-word.new.seat.me _ _ _ two u.3 in let same = c.load-word.ensures.0 ∙ (c.load.ensures.0 ∙ j.0) in let q = c.split_seat.ensures in let left = ap (λ (m : Seated). m.0) q.2 in let back = ap (λ (m : Seated). m.0) q.4 in let log_is = u.2 _ two.worker_known (sym k.0.numbered) ∙ ap (λ (y : WorkerView (List Group)). y.log) (sym (worker_is _ c.split_seat.result.me _ _ three back)) in
    operator_met c.self.inside.seat.table_id c.split_seat.new.seat.table_id c.split_seat.new.seat.me.0 _ _ c.worker.inside.number c.args.worker.now.view.number c.load-word.result u.0 _ c.args.self.now (q.0 ∙ same)
    (operator_is _ c.split_seat.new.seat.me _ _ three left) refl (k.0.numbered ∙ ap (λ (w : WorkerValue). w.view.number) c.worker.view_is) log_is c.self.view_is

pub returns-clause-told : goal.returns-clause-told
returns-clause-told c = let h = c.self.invariant in let k = c.worker.invariant in let shared = c.deref.result.now.shared in let own = h.1.same_table ∙ sym (ap (λ t. t.shared.table_id) c.deref.ensures) in
    let worker_own = ap (λ (w : WorkerValue). w.table) c.worker.view_is ∙ (c.requires.table ∙ (sym (ap (λ (o : OperatorSeatValue). o.table) c.self.view_is) ∙ own)) in
    let e = c.split_seat-moved.ensures in let j = c.join_seat.ensures in let one = taken _ _ c.worker.inside.number c.join_seat.new.seat.me c.split_seat-moved.result.me _ h.0 k.0 (ap (λ (m : Seated). m.0) e.4) j.2 in let t = (c.load.ensures.2 _ one.worker_known).1 in let two = peeked _ c.load.new.seat.me _ _ _ one t.2 in let u = c.load-word.ensures.2 _ two.operator_known c.worker.inside.number c.read_word_place.ensures in let three = scanned_both _ c.load-word.new.seat.me _ _ _ two u.3 in let same = c.load-word.ensures.0 ∙ (c.load.ensures.0 ∙ j.0) in let q = c.split_seat.ensures in let left = ap (λ (m : Seated). m.0) q.2 in let back = ap (λ (m : Seated). m.0) q.4 in let log_is = u.2 _ two.worker_known (sym k.0.numbered) ∙ ap (λ (y : WorkerView (List Group)). y.log) (sym (worker_is _ c.split_seat.result.me _ _ three back)) in
    subst (λ (l : List Entry). TellsLog the_shape c.args.self.now.view c.args.worker.now.view.number c.load-word.result l) log_is
    (subst (λ (o : OperatorSeatValue). TellsLog the_shape o.view c.args.worker.now.view.number c.load-word.result u.0) c.self.view_is
    (subst (λ (w : ℕ). TellsLog the_shape (operator_or_none c.self.inside.seat.me.0.operator) w c.load-word.result u.0) (k.0.numbered ∙ ap (λ (w : WorkerValue). w.view.number) c.worker.view_is) u.1))
