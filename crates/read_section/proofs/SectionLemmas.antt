-- What a worker knows inside a section.
use Rattle.std.proofs.Common.{Contains, ◌≡◌, ℕ, ◌+◌, ◌/◌, ◌%◌, List, [], ◌∷◌, ◌++◌, None, Option, Some, ap, arith, false, if◌then◌else◌, length, refl, slice_index_or, subst, sym, true, ◌∙◌, ⊎_elim}
use Rattle.std.specs.Option.{is_some}
use Rattle.config_image.specs.Image.{Group, row}
use Rattle.versions.specs.declared.step.Step.{Step}
use Rattle.versions.specs.declared.step.Step.TheVariants.{Announce, Fetch, Fill, Leave, Peek, Pin, Publish, Scan}
use Rattle.versions.specs.declared.step.Entry.{Entry}
use Rattle.versions.specs.declared.view.Stage.{Stage}
use Rattle.versions.specs.declared.view.Stage.TheVariants.{Announced, Inside, Outside, Peeked}
use Rattle.versions.specs.declared.view.WorkerView.{WorkerView}
use Rattle.versions.specs.View.{OfFetches, OfFetchesBy, after_leave}
use Rattle.versions.specs.Legal.{IsLogOf}
use Rattle.versions.specs.Safety.{IsHeldPlace}
use Rattle.versions.specs.Step.{IsStepOf, entry}
use Rattle.versions.specs.Table.{the_shape}
use Rattle.versions.proofs.ListLemmas.{contains_first}
use Rattle.versions.proofs.RowLemmas.{length-row}
use Rattle.versions.proofs.ShapeLemmas.{row_words_is}
use Rattle.read_section.specs.body.Seat.{TellsStage}
use Rattle.read_section.specs.Section.{EndsInFetches, IsFetchIn, IsWholeSection, SectionsAreWhole, at_pin, before_fetches, held_words, words_in}
use Rattle.read_section.specs.body.Steps.{IsOwnLogOf}
use Rattle.read_section.specs.Worker.{Enters, IsOutside, WorkerValue, left, left_from, steps}

-- the fetches that a log ends with
module _ (view : WorkerView (List Group)) where
  abbrev IsFetched : List Entry → Type 0
  IsFetched log = (fetches : List Entry) × (log ≡ fetches ++ before_fetches log) × ((entry : Entry) → Contains fetches entry → IsFetchIn view entry.step)

  none_fetched : (log : List Entry) → before_fetches log ≡ log → IsFetched log
  none_fetched log e = ([], sym e, λ entry c. absurd (let l = c.1 in omega arith))

  one_more_fetched : (newest : Entry) (older : List Entry) (place : ℕ) → newest.step ≡ Fetch view.number place → IsHeldPlace the_shape view place → before_fetches (newest ∷ older) ≡ before_fetches older → IsFetched older → IsFetched (newest ∷ older)
  one_more_fetched newest older place is held same (fetches, all, each) = (
    newest ∷ fetches,
    ap (λ l. newest ∷ l) (all ∙ ap (λ l. fetches ++ l) (sym same)),
    λ entry c. ⊎_elim (λ e. subst (λ (y : Entry). IsFetchIn view y.step) e (place, is, held)) (λ later. each entry later) (contains_first newest entry fetches c),
  )

  -- the log of a worker ends with fetches of words of the version held, back to its pin or a later peek
  fetched_log : (log : List Entry) → IsLogOf the_shape view.number log → OfFetches (IsHeldPlace the_shape view) log → IsFetched log
  fetched_log [] own held = none_fetched [] refl
  fetched_log (newest ∷ older) own held = go newest.step newest.word own.1 held (λ before. fetched_log older own.0 before)
    where
      go : (step : Step) (x : ℕ) → IsStepOf view.number step → OfFetchesBy (IsHeldPlace the_shape view) step (OfFetches (IsHeldPlace the_shape view) older) → (OfFetches (IsHeldPlace the_shape view) older → IsFetched older) → IsFetched (entry step x ∷ older)
      go (Peek v) x own held before = none_fetched (entry (Peek v) x ∷ older) refl
      go (Announce v) x own held before = none_fetched (entry (Announce v) x ∷ older) refl
      go (Pin v) x own held before = none_fetched (entry (Pin v) x ∷ older) refl
      go (Fetch v place) x own held before = one_more_fetched (entry (Fetch v place) x) older place (ap (λ (u : ℕ). Fetch u place) own) held.0 refl (before held.1)
      go (Leave v) x own held before = none_fetched (entry (Leave v) x ∷ older) refl
      go (Fill p y) x own held before = none_fetched (entry (Fill p y) x ∷ older) refl
      go (Publish q) x own held before = none_fetched (entry (Publish q) x ∷ older) refl
      go (Scan p) x own held before = none_fetched (entry (Scan p) x ∷ older) refl

-- any log
front_fetches : (log : List Entry) → (fetches : List Entry) × (log ≡ fetches ++ before_fetches log)
front_fetches [] = ([], refl)
front_fetches (newest ∷ older) = go newest.step newest.word (front_fetches older)
  where
    go : (step : Step) (x : ℕ) → (fetches : List Entry) × (older ≡ fetches ++ before_fetches older) → (fetches : List Entry) × (entry step x ∷ older ≡ fetches ++ before_fetches (entry step x ∷ older))
    go (Fetch v place) x t = (entry (Fetch v place) x ∷ t.0, ap (λ l. entry (Fetch v place) x ∷ l) t.1)
    go (Peek v) x t = ([], refl)
    go (Announce v) x t = ([], refl)
    go (Pin v) x t = ([], refl)
    go (Leave v) x t = ([], refl)
    go (Fill p y) x t = ([], refl)
    go (Publish q) x t = ([], refl)
    go (Scan p) x t = ([], refl)

outside_inside : (stage : Stage) → IsOutside stage → (k n r : ℕ) → stage ≡ Inside k n r → ⊥
outside_inside stage out k n r e = subst IsOutside e out

pub EndsInFetches-outside : (worker : WorkerValue) → IsOutside worker.view.stage → EndsInFetches worker
EndsInFetches-outside worker out = let t = front_fetches worker.view.log in record { fetches = t.0; log = t.1; each = λ k n r e stage c. absurd (outside_inside worker.view.stage out k n r stage) }

pub EndsInFetches-inside : (worker : WorkerValue) → IsOwnLogOf worker → EndsInFetches worker
EndsInFetches-inside worker own = let t = fetched_log worker.view worker.view.log own.order own.fetched in record { fetches = t.0; log = t.1; each = λ j m q e stage c. t.2 e c }

pub EndsInFetches-held : (held : Option ℕ) (worker : WorkerValue) → TellsStage held worker.view.stage → IsOwnLogOf worker → EndsInFetches worker
EndsInFetches-held None worker at own = EndsInFetches-outside worker at
EndsInFetches-held (Some n) worker at own = EndsInFetches-inside worker own

-- what a worker keeps of its section tells whether it is inside
pub outside_of_none : (held : Option ℕ) (stage : Stage) → is_some held ≡ false → TellsStage held stage → IsOutside stage
outside_of_none None stage e at = at
outside_of_none (Some n) stage e at = absurd (true_false e)
  where
    true_false : true ≡ false → ⊥
    true_false e = cc

pub length-shape_row : (config : List Group) → length (row config) ≡ the_shape.row_words
length-shape_row config = length-row config ∙ sym row_words_is

-- a worker that is inside holds as many words as a row has, and else none
pub length-held_words : (held : Option ℕ) (worker : WorkerValue) → TellsStage held worker.view.stage → length (held_words worker) ≡ (if is_some held then the_shape.row_words else 0)
length-held_words None worker at = go worker.view.stage at
  where
    go : (stage : Stage) → IsOutside stage → length (words_in stage worker.view.seen) ≡ 0
    go Outside out = refl
    go (Peeked n) out = refl
    go (Announced k) out = absurd out
    go (Inside k n r) out = absurd out
length-held_words (Some n) worker (r, inside) = ap (λ (stage : Stage). length (words_in stage worker.view.seen)) inside ∙ length-shape_row (slice_index_or worker.view.seen n [])

module _ (before inside last after : WorkerValue) (entered : Enters before inside) (same : at_pin last ≡ at_pin inside) (since : EndsInFetches last) (e : after ≡ steps left last) where
  -- right after the pin there is no fetch yet
  pinned_log : (at_pin inside).view.log ≡ inside.view.log
  pinned_log = subst (λ (w : WorkerValue). (at_pin w).view.log ≡ w.view.log) (sym entered.three_steps) refl

  inside_stage : inside.view.stage ≡ Inside (entered.peeked / the_shape.rows + 1) (entered.pinned / the_shape.rows) (entered.pinned % the_shape.rows)
  inside_stage = ap (λ (w : WorkerValue). w.view.stage) entered.three_steps

  last_stage : last.view.stage ≡ inside.view.stage
  last_stage = ap (λ (w : WorkerValue). w.view.stage) same

  left_is : left last.view ≡ after_leave last.view
  left_is = ap (λ (stage : Stage). left_from stage last.view) (last_stage ∙ inside_stage)

  whole_section : IsWholeSection before inside after
  whole_section = let number = ap (λ (w : WorkerValue). w.view.number) same in let after_is : after.view ≡ after_leave last.view = ap (λ (w : WorkerValue). w.view) e ∙ left_is in record {
    entered = entered;
    fetches = since.fetches;
    each = λ k n r newest stage c. subst (λ (w : WorkerValue). IsFetchIn w.view newest.step) same (since.each k n r newest (last_stage ∙ stage) c);
    log = ap (λ (v : WorkerView (List Group)). v.log) after_is
        ∙ ((λ i. entry (Leave (number i)) 0 ∷ last.view.log) ∙ ap (λ l. entry (Leave inside.view.number) 0 ∷ l) (since.log ∙ ap (λ l. since.fetches ++ l) (ap (λ (w : WorkerValue). w.view.log) same ∙ pinned_log)));
    outside = ap (λ (v : WorkerView (List Group)). v.stage) after_is;
    seen = ap (λ (v : WorkerView (List Group)). v.seen) after_is ∙ ap (λ (w : WorkerValue). w.view.seen) same;
    number = ap (λ (v : WorkerView (List Group)). v.number) after_is ∙ number;
    table = ap (λ (w : WorkerValue). w.table) e ∙ (ap (λ (w : WorkerValue). w.table) same ∙ ap (λ (w : WorkerValue). w.table) entered.three_steps);
  }

pub sections_are_whole : SectionsAreWhole
sections_are_whole before inside last after entered same since e = whole_section before inside last after entered same since e
