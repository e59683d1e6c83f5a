use Rattle.std.proofs.Common.{ap, length, subst, sym, ◌∙◌, List, ◌≡◌}
use Rattle.std.specs.Arc.{arc_value}
use Rattle.config_image.specs.Image.{Group}
use Rattle.versions.specs.Table.{the_shape}
use Rattle.read_section.specs.Operator.{AreOpenedWorkers}
use Rattle.read_section.specs.body.Seat.{IsSeating}
use Rattle.read_section.proofs.OpeningLemmas.{IsOperatorSeat-seated, keeps_at_start, length-opened, seated_operator}
use Rattle.read_section.proofs.seat.open_table.Goals as goal

pub of_words-requires : goal.of_words-requires
of_words-requires c = keeps_at_start c.args.config.now c.args.words.now c.requires.words c.requires.publishable

pub new_workers-requires-clause-seating : goal.new_workers-requires-clause-seating
new_workers-requires-clause-seating c = let e = c.in_ok-table.ensures in let key : c.args.config.now ≡ (arc_value c.in-Ok.table).shared.key = sym (ap (λ t. t.shared.key) c.in-Ok.ensures.ok ∙ e.5) in
    subst (λ (k : List Group). IsSeating c.in_ok-table.seat.me.0 k 0) key record { view_is = ap (λ m. m.0) e.4 }

pub new_workers-requires-clause-seat : goal.new_workers-requires-clause-seat
new_workers-requires-clause-seat c = let e = c.in_ok-table.ensures in record {
  no_slots = ap (λ m. m.1) e.4;
  same_table = e.2 ∙ sym (ap (λ t. t.shared.table_id) c.in-Ok.ensures.ok);
  words = ap (λ t. t.words) e.2 ∙ (e.0 ∙ (ap length c.requires.words ∙ length-opened c.args.config.now c.requires.publishable));
}

pub invariant_of-result : goal.invariant_of-result
invariant_of-result c = let made = c.in_ok-workers.ensures in (IsOperatorSeat-seated _ _ made.seating, made.seat)

pub returns-clause-operator : goal.returns-clause-operator
returns-clause-operator c = let made = c.in_ok-workers.ensures in let key : (arc_value c.in-Ok.table).shared.key ≡ c.args.config.now = ap (λ t. t.shared.key) c.in-Ok.ensures.ok ∙ c.in_ok-table.ensures.5 in
    seated_operator c.args.config.now _ c.new_workers.new.seat.table_id the_shape.workers (subst (λ (k : List Group). IsSeating c.new_workers.new.seat.me.0 k the_shape.workers) key made.seating)

pub returns-clause-workers : goal.returns-clause-workers
returns-clause-workers c = let made = c.in_ok-workers.ensures in let key : (arc_value c.in-Ok.table).shared.key ≡ c.args.config.now = ap (λ t. t.shared.key) c.in-Ok.ensures.ok ∙ c.in_ok-table.ensures.5 in
    subst (λ t. AreOpenedWorkers t c.args.config.now c.in_ok-workers.workers.items) (sym made.seat.same_table) (subst (λ (k : List Group). AreOpenedWorkers (arc_value c.in-Ok.table).shared.table_id k c.in_ok-workers.workers.items) key made.workers)
