-- The table's seats at the start.
use Rattle.std.proofs.Common.{◌≡◌, ℕ, ◌+◌, ◌<◌, List, [], ◌∷◌, ◌++◌, None, Some, ap, arith, length, length-append, refl, slice_get, subst, sym, ◌∙◌}
use mathlib.Core.Logic.{dite}
use native.Mathlib.Decide.{ℕ_discrete}
use Rattle.atomic_table.specs.Table.{Splits, opening}
use Rattle.atomic_table.specs.Seated.{TableId}
use Rattle.config_image.specs.Image.{Group}
use Rattle.member_group.specs.Charge.{charge_of}
use Rattle.versions.specs.declared.layout.TheConstants.{WORKERS}
use Rattle.versions.specs.Layout.{pages_named, stored_words}
use Rattle.versions.specs.View.{new_worker}
use Rattle.versions.specs.State.{new_operator}
use Rattle.versions.specs.World.{opened_with, opening_stored}
use Rattle.versions.specs.Table.{the_shape}
use Rattle.versions.proofs.TraceLemmas.{Coheres-start}
use Rattle.versions.proofs.WorldLemmas.{IsOpening-stored, has_room, light, slice_get-end, slice_get-front}
use Rattle.read_section.specs.Layout.{IsPublishable}
use Rattle.read_section.specs.Operator.{AreOpenedWorkers, opened_operator}
use Rattle.read_section.specs.body.Seat.{operator_at}
use Rattle.read_section.specs.body.Seat.{IsOperatorSeat, IsSeating}
use Rattle.read_section.specs.body.SeatView.{first_seat, spare_alone, without_spare}
use Rattle.read_section.specs.Worker.{WorkerValue}
use Rattle.read_section.specs.body.Seat.{worker_at}
use Rattle.read_section.proofs.SeatKept.{opens, splits_spare}
use Rattle.read_section.proofs.WorkerSeatLemmas.{Kept, Seated, View}

module _ (config : List Group) where
  -- the pages of version 0
  abbrev named : List ℕ
  named = pages_named the_shape (opening_stored config) 0

  pub keeps_at_start : (words : List ℕ) → words ≡ (opened_with config).words → IsPublishable config → Kept config (opening words [] (first_seat the_shape config (opening_stored config)))
  keeps_at_start words is publishable = subst (λ ws. Kept config (opening ws [] (first_seat the_shape config (opening_stored config)))) (sym is)
      (opens the_shape IsPublishable config (opening_stored config) (IsOpening-stored config (has_room config (charge_of config) publishable.0 refl publishable.1) (light config (charge_of config) refl publishable.1)) publishable)

  -- the length of the whole table
  pub length-opened : IsPublishable config → length (opened_with config).words ≡ (1 + the_shape.workers) + stored_words the_shape
  length-opened publishable = (Coheres-start the_shape config (opening_stored config) (IsOpening-stored config (has_room config (charge_of config) publishable.0 refl publishable.1) (light config (charge_of config) refl publishable.1))).words_length

  pub may_seat : (v : View) (n id : ℕ) → IsSeating v config n → n < the_shape.workers → Splits (Kept config) id v (without_spare v) (spare_alone the_shape v)
  may_seat v n id h low = subst (λ (y : View). Splits (Kept config) id y (without_spare y) (spare_alone the_shape y)) (sym h.view_is)
      (splits_spare the_shape IsPublishable config id record { worker = None; operator = Some (new_operator the_shape config (opening_stored config)); spare = n; told = [] } (new_operator the_shape config (opening_stored config)) refl refl refl low)

  pub IsSeating-on : (v : View) (n : ℕ) (me : Seated) (slots : List (ℕ × ℕ)) → IsSeating v config n → me ≡ (without_spare v, slots) → IsSeating me.0 config (n + 1)
  IsSeating-on v n me slots h e = record { view_is = ap (λ (y : Seated). y.0) e ∙ ap without_spare h.view_is }

  pub seated_worker : (v : View) (n : ℕ) (me : Seated) (table seat : TableId) → IsSeating v config n → seat ≡ table → me ≡ (spare_alone the_shape v, []) → worker_at seat me.0 ≡ record { table = table; view = new_worker config named n }
  seated_worker v n me table seat h same e = λ i. worker_at (same i) ((ap (λ (y : Seated). y.0) e ∙ ap (spare_alone the_shape) h.view_is) i)

  pub IsOperatorSeat-seated : (v : View) → IsSeating v config the_shape.workers → IsOperatorSeat v
  IsOperatorSeat-seated v h = subst IsOperatorSeat (sym h.view_is) record { knows = refl; no_spare = (let w = the_shape.workers in omega arith); no_worker = refl }

  pub seated_operator : (v : View) (seat : TableId) (n : ℕ) → IsSeating v config n → operator_at seat v ≡ record { table = seat; view = (opened_operator seat config).view }
  seated_operator v seat n h = ap (operator_at seat) h.view_is

  -- one worker more
  pub workers_so_far : (table : TableId) → List WorkerValue → ℕ → Type 0
  workers_so_far table workers n = (length workers ≡ n) × ((w : ℕ) → w < n → slice_get workers w ≡ Some (record { table = table; view = new_worker config named w }))

  pub one_worker_more : (table : TableId) (workers : List WorkerValue) (worker : WorkerValue) (n : ℕ) → workers_so_far table workers n → worker ≡ record { table = table; view = new_worker config named n } → workers_so_far table (workers ++ worker ∷ []) (n + 1)
  unfolding workers_so_far
  one_worker_more table workers worker n h is = (
    omega (arith, length-append workers (worker ∷ []), h.0),
    λ w low. dite (ℕ_discrete w n)
        (λ e. ap (slice_get (workers ++ worker ∷ [])) (e ∙ sym h.0)
        ∙ (slice_get-end workers worker ∙ (ap Some is ∙ ap (λ (k : ℕ). let y : WorkerValue = record { table = table; view = new_worker config named k } in Some y) (sym e))))
        (λ other. slice_get-front workers (worker ∷ []) w _ (h.1 w (omega arith))),
  )

  pub no_workers_yet : (table : TableId) → workers_so_far table [] 0
  unfolding workers_so_far
  no_workers_yet table = (refl, λ w low. absurd (omega arith))

  pub all_workers : (table : TableId) (workers : List WorkerValue) (n : ℕ) → workers_so_far table workers n → n ≡ WORKERS → AreOpenedWorkers table config workers
  unfolding workers_so_far
  all_workers table workers n h e = record { count = h.0 ∙ e; each = λ w low. h.1 w (omega arith) }
