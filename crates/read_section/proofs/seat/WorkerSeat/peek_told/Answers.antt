use Rattle.std.proofs.Common.{ap, refl, subst, sym, Some, ℕ, ◌<◌, ◌≡◌, ◌≤◌, ◌∙◌, rules}
use mathlib.Core.Option.{none}
use Rattle.atomic_table.specs.Table.{step}
use Rattle.atomic_table.specs.Seated.{TableId}
use Rattle.versions.specs.View.{after_peek}
use Rattle.versions.specs.Legal.{MayPeek}
use Rattle.versions.specs.Table.{the_shape}
use Rattle.read_section.specs.Layout.{IsPublishable}
use Rattle.read_section.specs.Worker.{WorkerValue}
use Rattle.read_section.specs.body.Seat.{worker_at, worker_or_none}
use Rattle.read_section.proofs.MeetingLemmas.{IsWorkerSeat-told, may_be_told, may_note, told_seen}
use Rattle.read_section.proofs.WorkerKept.{allows_peek}
use Rattle.read_section.proofs.WorkerSeatLemmas.{IsSeatAt-on, IsWorkerSeat-on, Seated, sees, some_word, worker_after}
use Rattle.read_section.proofs.seat.WorkerSeat.peek_told.Goals as goal

pub split_seat-note-requires : goal.split_seat-note-requires
split_seat-note-requires c = let h = c.self.invariant in let k = c.other.invariant in let shared = c.deref.result.now.shared in let own = h.1.same_table ∙ sym (ap (λ t. t.shared.table_id) c.deref.ensures) in let other_own = ap (λ (w : WorkerValue). w.table) c.other.view_is ∙ (c.requires.table ∙ (sym (ap (λ (w : WorkerValue). w.table) c.self.view_is) ∙ own)) in
    let some = subst (λ (t : TableId). 0 < t.words) own (some_word _ _ _ h.1) in
    (other_own, some, may_note shared.key 0 c.other.inside.seat.id _ _ k.0)

pub join_seat-requires : goal.join_seat-requires
join_seat-requires c = let h = c.self.invariant in let k = c.other.invariant in let shared = c.deref.result.now.shared in let own = h.1.same_table ∙ sym (ap (λ t. t.shared.table_id) c.deref.ensures) in let other_own = ap (λ (w : WorkerValue). w.table) c.other.view_is ∙ (c.requires.table ∙ (sym (ap (λ (w : WorkerValue). w.table) c.self.view_is) ∙ own)) in
    let some = subst (λ (t : TableId). 0 < t.words) own (some_word _ _ _ h.1) in let e = c.split_seat-note.ensures in
    (own, e.3 ∙ other_own, ap (λ (m : Seated). m.1) e.4, some, may_be_told shared.key 0 c.self.inside.seat.id _ c.split_seat-note.result.id c.other.inside.seat.me.0 _ (ap (λ (m : Seated). m.0) e.4))

pub load-requires : goal.load-requires
load-requires c = let h = c.self.invariant in let k = c.other.invariant in let shared = c.deref.result.now.shared in let own = h.1.same_table ∙ sym (ap (λ t. t.shared.table_id) c.deref.ensures) in let other_own = ap (λ (w : WorkerValue). w.table) c.other.view_is ∙ (c.requires.table ∙ (sym (ap (λ (w : WorkerValue). w.table) c.self.view_is) ∙ own)) in
    let some = subst (λ (t : TableId). 0 < t.words) own (some_word _ _ _ h.1) in let seat = c.join_seat.new.seat in let j = c.join_seat.ensures in let known : seat.me.0.worker ≡ Some (worker_or_none c.self.inside.seat.me.0.worker) = ap (λ (m : Seated). m.0.worker) j.2 ∙ h.0.knows in
    let no_spare : the_shape.workers ≤ seat.me.0.spare = subst (λ (n : ℕ). the_shape.workers ≤ n) (sym (ap (λ (m : Seated). m.0.spare) j.2)) h.0.no_spare in
    (j.0 ∙ own, some, allows_peek the_shape IsPublishable shared.key shared.table_id.slots seat.id seat.me _ (step shared.table_id.slots 0 0 0 none) known no_spare (subst (λ (w : WorkerValue). MayPeek w.view.stage) (sym c.self.view_is) c.requires.stage) refl)

pub invariant_of-self : goal.invariant_of-self
invariant_of-self c = let h = c.self.invariant in let j = c.join_seat.ensures in let told = IsWorkerSeat-told c.self.inside.seat.me.0 c.split_seat-note.result.me.0 c.self.inside.number c.join_seat.new.seat.me _ h.0 j.2 in
    let t = (c.load.ensures.2 _ told.knows).1 in (IsWorkerSeat-on _ _ told _ _ _ refl t.2, IsSeatAt-on _ _ _ (IsSeatAt-on _ _ _ h.1 c.join_seat.new.seat.me _ _ j.0 j.2) _ _ _ c.load.ensures.0 t.2)

pub returns-clause-worker : goal.returns-clause-worker
returns-clause-worker c = let h = c.self.invariant in let j = c.join_seat.ensures in let e = c.split_seat-note.ensures in let seat = c.join_seat.new.seat in let told = IsWorkerSeat-told c.self.inside.seat.me.0 c.split_seat-note.result.me.0 c.self.inside.number seat.me _ h.0 j.2 in
    let is : worker_at seat.table_id seat.me.0 ≡ c.args.self.now = (λ i. worker_at (j.0 i) (j.2 i).0) ∙ c.self.view_is in let t = (c.load.ensures.2 _ told.knows).1 in (
      c.load.result,
      t.0,
      sees _ _ told _ t.0 c.load.result c.args.self.now is t.1,
      told_seen c.self.inside.seat.me.0 c.other.inside.seat.me.0 c.other.inside.number seat.me c.split_seat-note.result.me c.load.new.seat.me _ c.other.inside.seat.table_id c.args.other.now t.0 _ c.other.invariant.0 c.other.view_is (ap (λ (m : Seated). m.0) e.4) j.2 t.1.told t.2 refl,
      worker_after _ _ told _ _ (after_peek the_shape.rows c.load.result t.0) _ _ c.args.self.now is c.load.ensures.0 t.2,
    )

pub returns-clause-other : goal.returns-clause-other
returns-clause-other c = search rules
