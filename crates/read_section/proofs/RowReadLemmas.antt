-- What the last fetch of a read tells: of a word of the row, of a word of an extent, and of the row's first word.
use Rattle.std.proofs.Common.{◌≡◌, ◌⊎◌, ℕ, ◌+◌, ◌*◌, ◌<◌, ◌≤◌, List, [], Some, ap, arith, length, refl, slice_get, slice_index_or, subst, sym, ◌∙◌, ⊎_elim}
use Rattle.std.proofs.lemmas.Option.{get_or_from_slice_get, slice_get-get_or}
use Rattle.config_image.specs.declared.TheConstants.{ROW_WORDS}
use Rattle.config_image.specs.Image.{Group, image, programs_begin}
use Rattle.config_image.specs.PageTable.{header_begin, header_len}
use Rattle.config_image.specs.Pooled.{PooledRowTells, form_word, pooled_row}
use Rattle.versions.specs.declared.layout.TheConstants.{ROWS_BEGIN}
use Rattle.versions.specs.declared.view.Stage.TheVariants.{Inside}
use Rattle.versions.specs.Layout.{row_begin}
use Rattle.versions.specs.Safety.{IsHeldPlace}
use Rattle.versions.specs.Table.{the_shape}
use Rattle.versions.proofs.RowLemmas.{row_behind_image}
use Rattle.config_image.proofs.ImageLemmas.{length_word}
use Rattle.config_image.specs.declared.pages.cache.Extent.{Extent}
use Rattle.config_image.specs.Cache.{Holds}
use Rattle.read_section.specs.Reads.{TellsWordAt}
use Rattle.read_section.specs.Section.{held_words}
use Rattle.read_section.specs.Worker.{WorkerValue}
use Rattle.read_section.specs.body.Found.{HasPages, IsFormIn, IsFormOf, IsExtentOf, Knows, KnowsAt, KnowsRow, TellsForm, TellsExtent, no_extent}
use Rattle.read_section.specs.body.Sought.{IsSought}
use Rattle.read_section.specs.body.Steps.{SeesWord}
use Rattle.read_section.proofs.HeldWordLemmas.{config_held, held_stage, image_word_held, known_again, known_there, pages_told, extent_in_programs, extent_page, row_place_held, row_place_is, row_word_held, row_word_told, same_version, small_in_row}
use Rattle.read_section.proofs.PartEntryLemmas.{ArePages-table, tells}

some_heads : (config : List Group) → 0 < programs_begin config
some_heads config = omega arith

-- a word before the programs
module _ (worker : WorkerValue) (row heads : ℕ) (extent : Extent) (i : ℕ) (knows : Knows worker.view row heads extent) (held : i < length (held_words worker)) (some : 0 < i) (low : i < heads) where
  module _ (k n r : ℕ) (stage : worker.view.stage ≡ Inside k n r) where
    abbrev config : List Group
    config = config_held worker n

    known : (n < length worker.view.seen) × KnowsAt config worker.view.pages r row heads extent
    known = known_there worker k n r stage row heads extent knows

    head : (heads ≡ programs_begin config) × HasPages config worker.view.pages
    head = known.1.1.1.0 (omega arith)

    told : PooledRowTells config worker.view.pages
    told = tells config worker.view.pages known.1.1.0 (ArePages-table config worker.view.pages head.1)

    head_told : (x : ℕ) → SeesWord worker (ROWS_BEGIN + row * ROW_WORDS + i) x → slice_get (image config) i ≡ Some x
    head_told x sees = let h = head.0 in let is = told.image_words i some (omega arith) in let there = slice_get-get_or (pooled_row config worker.view.pages) i 0 (let whole = told.whole in let small = small_in_row worker k n r stage i held in omega arith) in
        sym is ∙ (there ∙ ap Some (sym (row_word_told worker k n r stage row i known.1.0.0 known.1.0.1 (small_in_row worker k n r stage i held) x sees)))

    head_tells : (x : ℕ) → TellsWordAt config r worker.view.pages i (ROWS_BEGIN + row * ROW_WORDS + i) x x
    head_tells x = let h = head.0 in let within = told.inside in record {
      by_length = λ none. ⊎_elim (λ zero. absurd (omega arith)) (λ behind. absurd (omega arith)) none;
      by_row = λ more before. row_place_is worker k n r stage row i known.1.0.0 known.1.0.1 (small_in_row worker k n r stage i held);
      by_page = λ from to. absurd (omega arith);
      loaded = λ more before. refl;
    }

  pub head_word : (x : ℕ) → SeesWord worker (ROWS_BEGIN + row * ROW_WORDS + i) x → slice_get (held_words worker) i ≡ Some x
  head_word x sees = let t = held_stage worker.view.stage worker.view.seen i held in image_word_held worker t.0 t.1 t.2 t.3 i x held (head_told t.0 t.1 t.2 t.3 x sees)

  pub head_newest : (x k n r : ℕ) → worker.view.stage ≡ Inside k n r → TellsWordAt (slice_index_or worker.view.seen n []) r worker.view.pages i (ROWS_BEGIN + row * ROW_WORDS + i) x x
  head_newest x k n r stage = head_tells k n r stage x

-- where the programs begin, by the row's first word, if that is cached
pub knows_heads : (worker : WorkerValue) (row heads : ℕ) (extent : Extent) (k n r : ℕ) → worker.view.stage ≡ Inside k n r → Knows worker.view row heads extent → (form : ℕ) → (0 < form → TellsForm worker.view form)
    → Knows worker.view row (header_begin form) extent
knows_heads worker row heads extent k n r stage knows form tells_form =
    let known = known_there worker k n r stage row heads extent knows in
    known_again worker k n r stage row (header_begin form) extent (
      known.0,
      (
        known.1.0,
        (
          known.1.1.0,
          (
            λ some. let f = tells_form (omega arith) k n r stage in
                let told = tells (config_held worker n) worker.view.pages known.1.1.0 (ArePages-table (config_held worker n) worker.view.pages f.1) in
                (ap header_begin f.0 ∙ told.begin_part, f.1),
            known.1.1.1.1,
          ),
        ),
      ),
    )

-- the same in a number of its own
pub heads_found : (worker : WorkerValue) (row old : ℕ) (extent : Extent) (k n r : ℕ) → worker.view.stage ≡ Inside k n r → Knows worker.view row old extent → (form : ℕ) → (0 < form → TellsForm worker.view form)
    → (heads : ℕ) → heads ≡ header_begin form → Knows worker.view row heads extent
heads_found worker row old extent k n r stage knows form tells_form heads is = subst (λ (h : ℕ). Knows worker.view row h extent) (sym is) (knows_heads worker row old extent k n r stage knows form tells_form)

pub form_in : (worker : WorkerValue) (form : ℕ) → IsFormIn worker.view form → TellsForm worker.view form
form_in worker form is k n r stage = subst (λ m. IsFormOf (config_held worker m) worker.view.pages form) (same_version worker.view.stage is.0 is.1 is.2 k n r is.3 stage) is.4

-- the row alone
pub row_alone : (worker : WorkerValue) (row heads : ℕ) (extent : Extent) (i : ℕ) → i < length (held_words worker) → Knows worker.view row heads extent → KnowsRow worker.view row
row_alone worker row heads extent i held knows =
    let t = held_stage worker.view.stage worker.view.seen i held in let known = known_there worker t.0 t.1 t.2 t.3 row heads extent knows in
    known_again worker t.0 t.1 t.2 t.3 row 0 no_extent (known.0, (known.1.0, (known.1.1.0, (λ some. absurd (omega arith), λ some. absurd (omega arith)))))

-- another extent
pub knows_extent : (worker : WorkerValue) (row heads : ℕ) (old extent : Extent) (k n r : ℕ) → worker.view.stage ≡ Inside k n r → Knows worker.view row heads old
    → (extent.at < extent.end → TellsExtent worker.view extent) → Knows worker.view row heads extent
knows_extent worker row heads old extent k n r stage knows is =
    let known = known_there worker k n r stage row heads old knows in
    known_again worker k n r stage row heads extent (known.0, (known.1.0, (known.1.1.0, (known.1.1.1.0, λ some. is some k n r stage))))

-- a word of the programs may be looked for
pub sought_there : (worker : WorkerValue) (row form i : ℕ) → KnowsRow worker.view row → IsFormIn worker.view form → header_begin form ≤ i → i < header_len form → IsSought worker.view row form i
sought_there worker row form i knows f from to =
    let config = config_held worker f.1 in let known = known_there worker f.0 f.1 f.2 f.3 row 0 no_extent knows in
    let told = tells config worker.view.pages known.1.1.0 (ArePages-table config worker.view.pages f.4.1) in
    let heads = ap header_begin f.4.0 ∙ told.begin_part in let whole = ap header_len f.4.0 ∙ told.length_part in
    (f.0, f.1, f.2, f.3, known.0, (known.1.0.0, known.1.0.1, known.1.1.0, f.4.0, f.4.1, omega arith, omega arith))

-- a word of an extent
pub extent_newest : (worker : WorkerValue) (extent : Extent) (i : ℕ) → ((k n r : ℕ) → worker.view.stage ≡ Inside k n r → (n < length worker.view.seen) × IsExtentOf (config_held worker n) worker.view.pages extent)
    → Holds extent i → (x k n r : ℕ) → worker.view.stage ≡ Inside k n r → TellsWordAt (slice_index_or worker.view.seen n []) r worker.view.pages i (extent.shift + i) x x
extent_newest worker extent i is there x k n r stage =
    let p = is k n r stage in let programs = extent_in_programs worker k n r stage extent p.0 p.1 i there in let from = programs.0 in let to = programs.1 in
    let heads = some_heads (config_held worker n) in record {
      by_length = λ none. ⊎_elim (λ zero. absurd (omega arith)) (λ behind. absurd (omega arith)) none;
      by_row = λ some before. absurd (omega arith);
      by_page = λ start end. extent_page worker k n r stage extent p.0 p.1 i there;
      loaded = λ some before. refl;
    }

-- the row's first word, which is fetched for the image's length
module _ (worker : WorkerValue) (row : ℕ) (i : ℕ) (knows : KnowsRow worker.view row) (held : i < length (held_words worker)) where
  first_place : ROWS_BEGIN + row * ROW_WORDS + 0 ≡ ROWS_BEGIN + row * ROW_WORDS
  first_place = omega arith

  abbrev some_words : 0 < ROW_WORDS
  some_words = omega arith

  module _ (k n r : ℕ) (stage : worker.view.stage ≡ Inside k n r) where
    abbrev held_config : List Group
    held_config = config_held worker n

    what : (n < length worker.view.seen) × KnowsAt held_config worker.view.pages r row 0 no_extent
    what = known_there worker k n r stage row 0 no_extent knows

    at_first : ROWS_BEGIN + row * ROW_WORDS ≡ row_begin the_shape r
    at_first = sym first_place ∙ (row_place_is worker k n r stage row 0 what.1.0.0 what.1.0.1 some_words ∙ (let g : row_begin the_shape r + 0 ≡ row_begin the_shape r = omega arith in g))

    first_held_at : IsHeldPlace the_shape worker.view (ROWS_BEGIN + row * ROW_WORDS)
    first_held_at = subst (IsHeldPlace the_shape worker.view) first_place (row_place_held worker k n r stage row 0 what.1.0.0 what.1.0.1 some_words)

    module _ (x : ℕ) (sees : SeesWord worker (ROWS_BEGIN + row * ROW_WORDS) x) where
      has : HasPages held_config worker.view.pages
      has = pages_told worker k n r stage (ROWS_BEGIN + row * ROW_WORDS) x sees

      form_told : PooledRowTells held_config worker.view.pages
      form_told = tells held_config worker.view.pages what.1.1.0 (ArePages-table held_config worker.view.pages has)

      x_is : x ≡ form_word held_config
      x_is = row_word_told worker k n r stage row 0 what.1.0.0 what.1.0.1 some_words x (subst (λ p. SeesWord worker p x) (sym first_place) sees)
          ∙ get_or_from_slice_get (pooled_row held_config worker.view.pages) 0 (form_word held_config) 0 form_told.form

      x_length : header_len x ≡ length (image held_config)
      x_length = ap header_len x_is ∙ form_told.length_part

      first_tells_at : (answer : ℕ) → (i ≡ 0) ⊎ (header_len x ≤ i) → TellsWordAt held_config r worker.view.pages i (ROWS_BEGIN + row * ROW_WORDS) x answer
      first_tells_at answer none = let heads = form_told.inside in let e = x_length in record {
        by_length = λ _. at_first;
        by_row = λ some before. ⊎_elim (λ zero. absurd (omega arith)) (λ behind. absurd (omega arith)) none;
        by_page = λ from to. ⊎_elim (λ zero. let h = some_heads held_config in absurd (omega arith)) (λ behind. absurd (omega arith)) none;
        loaded = λ some before. ⊎_elim (λ zero. absurd (omega arith)) (λ behind. absurd (omega arith)) none;
      }

      first_word_at : i ≡ 0 → slice_get (held_words worker) i ≡ Some (header_len x)
      first_word_at zero = image_word_held worker k n r stage i (header_len x) held (ap (slice_get (image held_config)) zero ∙ (length_word held_config ∙ ap Some (sym x_length)))

      zero_word_at : header_len x ≤ i → slice_get (held_words worker) i ≡ Some 0
      zero_word_at behind = row_word_held worker k n r stage i 0 held (row_behind_image held_config i (length (image held_config)) (small_in_row worker k n r stage i held) refl (let e = x_length in omega arith))

  pub first_held : IsHeldPlace the_shape worker.view (ROWS_BEGIN + row * ROW_WORDS)
  first_held = let t = held_stage worker.view.stage worker.view.seen i held in first_held_at t.0 t.1 t.2 t.3

  module _ (x : ℕ) (sees : SeesWord worker (ROWS_BEGIN + row * ROW_WORDS) x) where
    pub first_form : IsFormIn worker.view x
    first_form = let t = held_stage worker.view.stage worker.view.seen i held in (t.0, t.1, t.2, t.3, (x_is t.0 t.1 t.2 t.3 x sees, has t.0 t.1 t.2 t.3 x sees))

    pub first_newest : (answer : ℕ) → (i ≡ 0) ⊎ (header_len x ≤ i) → (k n r : ℕ) → worker.view.stage ≡ Inside k n r → TellsWordAt (slice_index_or worker.view.seen n []) r worker.view.pages i (ROWS_BEGIN + row * ROW_WORDS) x answer
    first_newest answer none k n r stage = first_tells_at k n r stage x sees answer none

    pub first_word : i ≡ 0 → slice_get (held_words worker) i ≡ Some (header_len x)
    first_word zero = let t = held_stage worker.view.stage worker.view.seen i held in first_word_at t.0 t.1 t.2 t.3 x sees zero

    pub zero_word : header_len x ≤ i → slice_get (held_words worker) i ≡ Some 0
    zero_word behind = let t = held_stage worker.view.stage worker.view.seen i held in zero_word_at t.0 t.1 t.2 t.3 x sees behind
