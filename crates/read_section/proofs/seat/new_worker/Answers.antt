use Rattle.std.proofs.Common.{ap, subst, sym, List, ◌<◌, ◌∙◌}
use Rattle.atomic_table.specs.Table.{Splits}
use Rattle.atomic_table.specs.Seated.{TableId}
use Rattle.config_image.specs.Image.{Group}
use Rattle.versions.specs.Table.{the_shape}
use Rattle.read_section.specs.body.SeatView.{spare_alone, without_spare}
use Rattle.read_section.proofs.OpeningLemmas.{IsSeating-on, may_seat, seated_worker}
use Rattle.read_section.proofs.WorkerSeatLemmas.{IsSeatAt-on, Kept, some_word}
use Rattle.read_section.proofs.seat.new_worker.Goals as goal

pub split_seat-seat-requires : goal.split_seat-seat-requires
split_seat-seat-requires c = let h = c.requires in let lent = c.deref.ensures ∙ c.in_ok-table.ensures in let own = h.seat.same_table ∙ sym (ap (λ t. t.shared.table_id) lent) in (
  own,
  subst (λ (t : TableId). 0 < t.words) own (some_word _ _ _ h.seat),
  subst (λ (k : List Group). Splits (Kept k) c.args.seat.now.id c.args.seat.now.me.0 (without_spare c.args.seat.now.me.0) (spare_alone the_shape c.args.seat.now.me.0)) (sym (ap (λ t. t.shared.key) lent)) (may_seat _ c.args.seat.now.me.0 c.args.number c.args.seat.now.id h.seating h.number),
)

pub returns-clause-seating : goal.returns-clause-seating
returns-clause-seating c = IsSeating-on _ _ c.args.number c.split_seat-seat.new.seat.me _ c.requires.seating c.split_seat-seat.ensures.2

pub returns-clause-seat : goal.returns-clause-seat
returns-clause-seat c = let t = c.split_seat-seat.ensures in IsSeatAt-on _ _ _ c.requires.seat c.split_seat-seat.new.seat.me _ _ t.0 t.2

pub returns-clause-worker : goal.returns-clause-worker
returns-clause-worker c = let t = c.split_seat-seat.ensures in c.new-2.ensures ∙ seated_worker _ _ c.args.number c.split_seat-seat.result.me _ c.split_seat-seat.result.table_id c.requires.seating (t.3 ∙ c.requires.seat.same_table) t.4
