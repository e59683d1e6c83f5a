-- A worker's seat, and what its steps leave.
use Rattle.std.proofs.Common.{◌≡◌, ℕ, ◌+◌, ◌*◌, ◌/◌, ◌%◌, ◌<◌, List, ap, arith, refl, subst, sym, ◌∙◌}
use mathlib.Core.Option.{none}
use Rattle.atomic_table.specs.Table.{Allows, Me, step}
use Rattle.atomic_table.specs.Seated.{TableId}
use Rattle.config_image.specs.declared.TheConstants.{PAGE_WORDS, ROW_WORDS}
use Rattle.config_image.specs.Image.{Group}
use Rattle.versions.specs.declared.layout.TheConstants.{POOL_BEGIN, ROWS, ROWS_BEGIN, TABLE_WORDS, WORKERS}
use Rattle.versions.specs.declared.view.Stage.{Stage}
use Rattle.versions.specs.declared.view.Stage.TheVariants.{Announced, Inside, Outside, Peeked}
use Rattle.versions.specs.declared.view.WorkerView.{WorkerView}
use Rattle.versions.specs.Layout.{page_begin, row_begin, stored_words}
use Rattle.versions.specs.View.{last_pinned, read_word_of}
use Rattle.versions.specs.Legal.{MayPeek}
use Rattle.versions.specs.Table.{the_shape}
use Rattle.versions.proofs.ListLemmas.{row_inside}
use Rattle.versions.proofs.ShapeLemmas.{row_words_is, rows_is, workers_is}
use Rattle.versions.specs.Safety.{IsHeldPlace, IsHeldPlaceAt, IsSeenPlace}
use Rattle.read_section.specs.declared.versions_rule.SeatView.{SeatView}
use Rattle.read_section.specs.Layout.{IsPublishable}
use Rattle.read_section.specs.body.Plays.{ShowsSeat, TellsWord, announces, fetches, leaves, peeks, pins}
use Rattle.read_section.specs.VersionsRule.{IsLeftByTrace}
use Rattle.read_section.specs.body.Seat.{IsSeatAt, IsWorkerSeat}
use Rattle.read_section.specs.body.Steps.{KeepsPages, Sees, SeesWord}
use Rattle.read_section.specs.body.SeatView.{with_worker}
use Rattle.read_section.specs.Worker.{IsInside, WorkerValue, steps}
use Rattle.read_section.specs.body.Seat.{worker_at, worker_or_none}
use Rattle.read_section.proofs.WorkerKept.{allows_announce, allows_fetch, allows_leave, allows_peek, allows_pin}

abbrev pub View : Type 0
View = SeatView (List Group)

abbrev pub Seated : Type 0
Seated = Me ℕ View

abbrev pub Kept : List Group → Rattle.atomic_table.specs.Table.State ℕ View → Type 0
Kept config = IsLeftByTrace the_shape IsPublishable {S = ℕ} config

-- the place of a word as it is computed
pub place_is : (r i : ℕ) → ROWS_BEGIN + r * ROW_WORDS + i ≡ row_begin the_shape r + i
place_is r i = λ j. 1 + sym workers_is j + r * sym row_words_is j + i

pub place_inside : (r i : ℕ) → r < the_shape.rows → i < the_shape.row_words → row_begin the_shape r + i < (1 + the_shape.workers) + stored_words the_shape
place_inside r i low small = let t = row_inside r the_shape.rows i the_shape.row_words low small in omega arith

-- the place of a word of a page as it is computed
pub page_place_is : (q k : ℕ) → POOL_BEGIN + q * PAGE_WORDS + k ≡ page_begin the_shape q + k
unfolding the_shape
page_place_is q k = omega arith

pub page_place_inside : (q k : ℕ) → q < the_shape.pages → k < the_shape.page_words → page_begin the_shape q + k < (1 + the_shape.workers) + stored_words the_shape
page_place_inside q k low small = let t = row_inside q the_shape.pages k the_shape.page_words low small in omega arith

-- the words of the table as they are counted
pub table_words : (place : ℕ) → place < TABLE_WORDS → place < (1 + the_shape.workers) + stored_words the_shape
unfolding the_shape
table_words place low = omega arith

-- `current` split as it is computed
pub version_is : (x : ℕ) → x / the_shape.rows ≡ x / ROWS
version_is x = λ i. x / rows_is i

pub row_is : (x : ℕ) → x % the_shape.rows ≡ x % ROWS
row_is x = λ i. x % rows_is i

-- a place of the version that is held is one of some version
held_inside : (stage : Stage) (seen : List (List Group)) (pages : List ℕ) (place : ℕ) → IsHeldPlaceAt the_shape stage seen pages place
    → (k : ℕ) × (n : ℕ) × (r : ℕ) × (stage ≡ Inside k n r) × IsSeenPlace the_shape seen pages n r place
held_inside Outside seen pages place held = absurd held
held_inside (Peeked n) seen pages place held = absurd held
held_inside (Announced k) seen pages place held = absurd held
held_inside (Inside k n r) seen pages place held = (k, n, r, refl, held)

module _ (slots : List (ℕ × ℕ)) (seat table : TableId) (h : IsSeatAt slots seat table) where
  pub some_word : 0 < seat.words
  some_word = let w = h.words in omega arith

  pub word_inside : (place : ℕ) → place < (1 + the_shape.workers) + stored_words the_shape → place < seat.words
  word_inside place low = let w = h.words in omega arith

  pub read_word_inside : (w : ℕ) → w < the_shape.workers → 1 + w < seat.words
  read_word_inside w low = let wide = h.words in omega arith

  pub IsSeatAt-on : (me : Seated) (view : View) (seat' : TableId) → seat' ≡ seat → me ≡ (view, slots) → IsSeatAt me.1 seat' table
  IsSeatAt-on me view seat' same e = subst (λ (y : Seated). IsSeatAt y.1 seat' table) (sym e) record { no_slots = h.no_slots; same_table = same ∙ h.same_table; words = ap (λ (y : TableId). y.words) same ∙ h.words }

module _ (v : View) (number : ℕ) (h : IsWorkerSeat v number) where
  abbrev view : WorkerView (List Group)
  view = worker_or_none v.worker

  pub few_words : number < WORKERS
  few_words = subst (λ (n : ℕ). number < n) workers_is h.below

  pub IsWorkerSeat-on : (slots : List (ℕ × ℕ)) (view' : WorkerView (List Group)) (me : Seated) → view'.number ≡ view.number → me ≡ (with_worker v view', slots) → IsWorkerSeat me.0 number
  IsWorkerSeat-on slots view' me same e = subst (λ (y : Seated). IsWorkerSeat y.0 number) (sym e) record { knows = refl; no_spare = h.no_spare; numbered = h.numbered ∙ sym same; below = h.below }

  pub worker_after : (slots : List (ℕ × ℕ)) (seat : TableId) (f : WorkerView (List Group) → WorkerView (List Group)) (me : Seated) (seat' : TableId) (worker : WorkerValue) → worker_at seat v ≡ worker → seat' ≡ seat
      → me ≡ (with_worker v (f view), slots) → worker_at seat' me.0 ≡ steps f worker
  worker_after slots seat f me seat' worker is same e = (λ i. worker_at (same i) (e i).0) ∙ ap (steps f) is

  pub stage_is : (seat : TableId) (worker : WorkerValue) → worker_at seat v ≡ worker → (stage : Stage) → worker.view.stage ≡ stage → view.stage ≡ stage
  stage_is seat worker is stage e = ap (λ (w : WorkerValue). w.view.stage) is ∙ e

  pub sees : (seat : TableId) (seen : List (List Group)) (x : ℕ) (worker : WorkerValue) → worker_at seat v ≡ worker → ShowsSeat the_shape IsPublishable v view x seen → Sees worker x seen
  sees seat seen x worker is told = subst (λ (w : WorkerValue). Sees w x seen) is record { shows = told.shows; publishable = told.publishable; own_log = told.own }

  pub KeepsPages-told : (seat : TableId) (pages : List ℕ) (x : ℕ) (worker : WorkerValue) → worker_at seat v ≡ worker → (x / the_shape.rows ≡ last_pinned the_shape.rows view.log → pages ≡ view.pages) → KeepsPages worker x pages
  KeepsPages-told seat pages x worker is told = subst (λ (w : WorkerValue). KeepsPages w x pages) is told

  module _ (slots : List (ℕ × ℕ)) (seat : TableId) (config : List Group) (slots' id : ℕ) (worker : WorkerValue) (is : worker_at seat v ≡ worker) where
    pub may_peek : MayPeek worker.view.stage → Allows (Kept config) slots' id (v, slots) 0 (λ n. n) (peeks the_shape IsPublishable (step slots' 0 0 0 none) (v, slots))
    may_peek may = allows_peek the_shape IsPublishable config slots' id (v, slots) view (step slots' 0 0 0 none) h.knows h.no_spare (subst (λ (w : WorkerValue). MayPeek w.view.stage) (sym is) may) refl

    pub may_announce : (n : ℕ) → worker.view.stage ≡ Peeked n → Allows (Kept config) slots' id (v, slots) (1 + number) (λ _. n + 1) (λ _. announces the_shape (step slots' (1 + number) (n + 1) 0 none) (v, slots) (n + 1))
    may_announce n stage = subst (λ (k : ℕ). Allows (Kept config) slots' id (v, slots) (1 + k) (λ _. n + 1) (λ _. announces the_shape (step slots' (1 + number) (n + 1) 0 none) (v, slots) (n + 1))) (sym h.numbered)
        (allows_announce the_shape IsPublishable config slots' id (v, slots) view n (n + 1) (step slots' (1 + number) (n + 1) 0 none) h.knows h.no_spare (stage_is seat worker is (Peeked n) stage) refl (ap (λ (k : ℕ). 1 + k) h.numbered))

    pub may_pin : (k : ℕ) → worker.view.stage ≡ Announced k → Allows (Kept config) slots' id (v, slots) 0 (λ n. n) (pins the_shape IsPublishable (step slots' 0 0 0 none) (v, slots))
    may_pin k stage = allows_pin the_shape IsPublishable config slots' id (v, slots) view k (step slots' 0 0 0 none) h.knows h.no_spare (stage_is seat worker is (Announced k) stage) refl

    pub may_leave : (n r : ℕ) → IsInside worker.view.stage n r → Allows (Kept config) slots' id (v, slots) (1 + number) (λ _. 0) (λ _. leaves the_shape (step slots' (1 + number) 0 0 none) (v, slots) 0)
    may_leave n r stage = subst (λ (k : ℕ). Allows (Kept config) slots' id (v, slots) (1 + k) (λ _. 0) (λ _. leaves the_shape (step slots' (1 + number) 0 0 none) (v, slots) 0)) (sym h.numbered)
        (allows_leave the_shape IsPublishable config slots' id (v, slots) view (read_word_of worker.view.stage) n r (step slots' (1 + number) 0 0 none) h.knows h.no_spare (stage_is seat worker is (Inside (read_word_of worker.view.stage) n r) stage) (ap (λ (k : ℕ). 1 + k) h.numbered))

    pub may_fetch : (place : ℕ) → IsHeldPlace the_shape worker.view place → Allows (Kept config) slots' id (v, slots) place (λ x. x) (fetches the_shape (step slots' place 0 0 none) (v, slots))
    may_fetch place held = let t = held_inside worker.view.stage worker.view.seen worker.view.pages place held in
        allows_fetch the_shape IsPublishable config slots' id (v, slots) view t.0 t.1 t.2 place (step slots' place 0 0 none) h.knows h.no_spare (stage_is seat worker is (Inside t.0 t.1 t.2) t.3) (subst (λ (w : WorkerValue). IsSeenPlace the_shape w.view.seen w.view.pages t.1 t.2 place) (sym is) t.4) refl

  pub SeesWord-told : (seat : TableId) (worker : WorkerValue) → worker_at seat v ≡ worker → (place x : ℕ) → ((k n r : ℕ) → view.stage ≡ Inside k n r → TellsWord the_shape view.seen view.pages n r place x) → SeesWord worker place x
  SeesWord-told seat worker is place x told = subst (λ (w : WorkerValue). SeesWord w place x) is told
