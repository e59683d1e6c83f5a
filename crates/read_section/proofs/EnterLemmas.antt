-- A worker's steps from outside to the version that it holds.
use Rattle.std.proofs.Common.{Contains, ◌≡◌, ℕ, zero, suc, ◌+◌, ◌/◌, ◌%◌, ◌<◌, ◌≤◌, List, [], ◌∷◌, ◌++◌, None, Option, Some, ap, append_assoc, arith, length, length-append, refl, slice_index_or, subst, sym, ◌∙◌}
use Rattle.config_image.specs.declared.TheConstants.{ROW_WORDS}
use Rattle.config_image.specs.Image.{Group, image, row}
use Rattle.config_image.specs.Lookup.{BeginsWithImage}
use Rattle.config_image.proofs.LengthLemmas.{within_charge}
use Rattle.config_image.proofs.RowLemmas.{row_holds}
use Rattle.versions.specs.declared.layout.TheConstants.{ROWS}
use Rattle.versions.specs.declared.view.Stage.{Stage}
use Rattle.versions.specs.declared.view.Stage.TheVariants.{Announced, Inside, Outside, Peeked}
use Rattle.versions.specs.declared.view.WorkerView.{WorkerView}
use Rattle.versions.specs.View.{BeginsWith, IsTold, after_announce, after_peek, after_pin, read_word_of, stage_after_peek}
use Rattle.versions.specs.Legal.{MayPeek}
use Rattle.versions.specs.Table.{the_shape}
use Rattle.read_section.specs.Layout.{IsPublishable}
use Rattle.read_section.specs.body.Seat.{TellsStage}
use Rattle.read_section.specs.body.Found.{KnowsIn, KnowsRow, no_extent}
use Rattle.read_section.specs.Section.{HoldsLastSeen, held_version, held_words, version_of}
use Rattle.read_section.specs.body.Steps.{Sees}
use Rattle.read_section.specs.View.{Shows}
use Rattle.read_section.specs.Worker.{Enters, IsInside, IsOutside, WorkerValue, left, left_from, steps}
use Rattle.read_section.proofs.WorkerSeatLemmas.{version_is}
use Rattle.read_section.proofs.WorkerSeatLemmas as seat

pub may_peek_at : (held : Option ℕ) (stage : Stage) → TellsStage held stage → MayPeek stage
may_peek_at None Outside at = tt
may_peek_at None (Peeked n) at = tt
may_peek_at None (Announced k) at = absurd at
may_peek_at None (Inside k n r) at = absurd at
may_peek_at (Some n) stage at = subst MayPeek (sym at.1) tt

-- a worker that left, or made no step, is outside
pub IsOutside-left : (view : WorkerView (List Group)) → MayPeek (left view).stage → IsOutside (left view).stage
IsOutside-left view = go view.stage refl
  where
    go : (stage : Stage) → view.stage ≡ stage → MayPeek (left_from stage view).stage → IsOutside (left_from stage view).stage
    go Outside e may = subst IsOutside (sym e) tt
    go (Peeked n) e may = subst IsOutside (sym e) tt
    go (Announced k) e may = absurd (subst MayPeek e may)
    go (Inside k n r) e may = tt

pub left_seen : (view : WorkerView (List Group)) → (left view).seen ≡ view.seen
left_seen view = go view.stage
  where
    go : (stage : Stage) → (left_from stage view).seen ≡ view.seen
    go Outside = refl
    go (Peeked n) = refl
    go (Announced k) = refl
    go (Inside k n r) = refl

peeked_outside : (stage : Stage) (n : ℕ) → IsOutside stage → stage_after_peek stage n ≡ Peeked n
peeked_outside Outside n out = refl
peeked_outside (Peeked m) n out = refl
peeked_outside (Announced k) n out = absurd out
peeked_outside (Inside k m r) n out = absurd out

-- a list of some length has a last element
last_of : {A : Type 0} → (xs : List A) (n : ℕ) → length xs ≡ suc n → (older : List A) × (x : A) × (xs ≡ older ++ x ∷ []) × (length older ≡ n)
last_of [] n e = absurd (omega arith)
last_of (x ∷ []) n e = ([], x, refl, omega arith)
last_of (x ∷ y ∷ xs) zero e = absurd (omega arith)
last_of (x ∷ y ∷ xs) (suc n) e = let t = last_of (y ∷ xs) n (omega arith) in (x ∷ t.0, t.1, ap (λ l. x ∷ l) t.2, ap suc t.3)

at_last : {A : Type 0} → (older : List A) (x d : A) → slice_index_or (older ++ x ∷ []) (length older) d ≡ x
at_last [] x d = refl
at_last (y ∷ older) x d = at_last older x d

contains_last : {A : Type 0} → (older : List A) (x : A) → Contains (older ++ x ∷ []) x
contains_last [] x = (0, omega arith, refl)
contains_last (y ∷ older) x = let t = contains_last older x in (suc t.0, let low = t.1 in omega arith, t.2)

module _ (before out : WorkerValue) (may : MayPeek out.view.stage) (e0 : out ≡ steps left before) where
  pub out_is : IsOutside out.view.stage
  out_is = subst (λ (w : WorkerValue). IsOutside w.view.stage) (sym e0) (IsOutside-left before.view (subst (λ (w : WorkerValue). MayPeek w.view.stage) e0 may))

  module _ (one : WorkerValue) (x : ℕ) (seen : List (List Group)) (e1 : one ≡ steps (after_peek the_shape.rows x seen) out) where
    pub peeked_stage : one.view.stage ≡ Peeked (x / ROWS)
    peeked_stage = ap (λ (w : WorkerValue). w.view.stage) e1 ∙ (peeked_outside out.view.stage (x / the_shape.rows) out_is ∙ ap Peeked (version_is x))

    module _ (two three : WorkerValue) (y : ℕ) (more : List (List Group)) (pages : List ℕ) (e2 : two ≡ steps (after_announce (x / ROWS + 1)) one) (e3 : three ≡ steps (after_pin the_shape.rows y more pages) two) (first : Sees out x seen) (second : Sees two y more) where
      pub enters : Enters before three
      enters = record {
        peeked = x;
        pinned = y;
        seen_by_peek = seen;
        seen_by_pin = more;
        pages = pages;
        peek_shows = subst (Shows the_shape x seen) (ap (λ (w : WorkerValue). w.view.seen) e0 ∙ left_seen before.view) first.shows;
        pin_shows = subst (Shows the_shape y more) (ap (λ (w : WorkerValue). w.view.seen) e2 ∙ ap (λ (w : WorkerValue). w.view.seen) e1) second.shows;
        three_steps = e3 ∙ ap (steps (after_pin the_shape.rows y more pages)) (e2 ∙ (ap (λ (n : ℕ). steps (after_announce (n + 1)) one) (sym (version_is x)) ∙ ap (steps (after_announce (x / the_shape.rows + 1))) (e1 ∙ ap (steps (after_peek the_shape.rows x seen)) e0)));
      }

      pub pinned_inside : IsInside three.view.stage (y / ROWS) (y % ROWS)
      pinned_inside = let stage : three.view.stage ≡ Inside (read_word_of two.view.stage) (y / the_shape.rows) (y % the_shape.rows) = ap (λ (w : WorkerValue). w.view.stage) e3 in
          stage ∙ ((λ i. Inside (read_word_of two.view.stage) (version_is y i) (seat.row_is y i)) ∙ ap (λ (k : ℕ). Inside k (y / ROWS) (y % ROWS)) (sym (ap read_word_of stage)))

      pub HoldsLastSeen-pinned : HoldsLastSeen three
      HoldsLastSeen-pinned =
          let last = last_of more (y / the_shape.rows) second.shows.up_to_version in let config = last.1 in let seen_is : three.view.seen ≡ last.0 ++ config ∷ [] = ap (λ (w : WorkerValue). w.view.seen) e3 ∙ last.2 in
          let publishable : IsPublishable config = second.publishable config (subst (λ l. Contains l config) (sym last.2) (contains_last last.0 config)) in
          let same : held_words three ≡ row config = ap held_words e3 ∙ ap row ((λ i. slice_index_or (last.2 i) (sym last.3 i) []) ∙ at_last last.0 config []) in
          let charge = publishable.1 in record {
            config = config;
            older = last.0;
            last_seen = seen_is;
            number = ap held_version e3 ∙ sym last.3;
            publishable = publishable;
            row_is = same;
            image = subst (λ l. BeginsWithImage l config) (sym same) (row_holds config publishable.0 (omega arith)).begins;
          }

begins_further : (xs ys zs : List (List Group)) → BeginsWith xs ys → BeginsWith ys zs → BeginsWith xs zs
begins_further xs ys zs (more, e) (less, f) = (less ++ more, e ∙ (ap (λ l. l ++ more) f ∙ append_assoc zs less more))

pub seen_on : (before after : WorkerValue) → Enters before after → IsTold before.view.seen after.view
seen_on before after entered = subst (λ (w : WorkerValue). IsTold before.view.seen w.view) (sym entered.three_steps)
    (begins_further entered.seen_by_pin entered.seen_by_peek before.view.seen entered.pin_shows.goes_on entered.peek_shows.goes_on)

pub number_seen : (worker : WorkerValue) → HoldsLastSeen worker → length worker.view.seen ≡ suc (held_version worker)
number_seen worker last = let number = last.number in ap length last.last_seen ∙ omega (arith, length-append last.older (last.config ∷ []))

-- a section that begins knows its row
pub row_known : (worker : WorkerValue) (version row : ℕ) → IsInside worker.view.stage version row → row < ROWS → HoldsLastSeen worker → KnowsRow worker.view row
row_known worker version row inside below last =
    let number : version ≡ length last.older = sym (ap version_of inside) ∙ last.number in
    let seen : version < length worker.view.seen = let more = ap length last.last_seen in omega (arith, length-append last.older (last.config ∷ [])) in
    let same : slice_index_or worker.view.seen version [] ≡ last.config = (λ j. slice_index_or (last.last_seen j) (number j) []) ∙ at_last last.older last.config [] in
    let charge = last.publishable.1 in let covered = within_charge last.config last.publishable.0 in
    let room : length (image last.config) ≤ ROW_WORDS = omega arith in
    subst (λ (s : Stage). KnowsIn s worker.view.seen worker.view.pages row 0 no_extent) (sym inside)
    (seen, ((refl, below), (subst (λ c. length (image c) ≤ ROW_WORDS) (sym same) room, (λ some. absurd (omega arith), λ some. absurd (omega arith)))))
