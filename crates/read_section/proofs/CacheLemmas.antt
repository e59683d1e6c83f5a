-- What a worker's cache tells stays right while the worker makes steps.
use Rattle.std.proofs.Common.{◌≡◌, ◌≢◌, ◌⊎◌, ℕ, zero, suc, ◌/◌, ◌<◌, ◌≤◌, List, [], ◌∷◌, ◌++◌, ap, append-nil, arith, None, Option, Some, length, length-append, refl, slice_index_or, subst, sym, ◌∙◌, ⊎_elim}
use mathlib.Core.Logic.{dite}
use native.Mathlib.Decide.{ℕ_discrete}
use Rattle.config_image.specs.Image.{Group}
use Rattle.config_image.specs.declared.pages.cache.Extent.{Extent}
use Rattle.config_image.specs.Cache.{CacheValue, IsCached}
use Rattle.versions.specs.declared.layout.TheConstants.{ROWS}
use Rattle.versions.specs.declared.view.Stage.{Stage}
use Rattle.versions.specs.declared.view.Stage.TheVariants.{Announced, Inside, Outside, Peeked}
use Rattle.versions.specs.declared.view.WorkerView.{WorkerView}
use Rattle.versions.specs.View.{BeginsWith, after_announce, after_fetch, after_leave, after_peek, after_pin, last_pinned, read_word_of, stage_after_peek}
use Rattle.versions.specs.Table.{the_shape}
use Rattle.read_section.specs.body.Found.{IsFormIn, IsFormOf, IsExtentIn, IsExtentOf, TellsForm, TellsExtent}
use Rattle.read_section.specs.body.Cache.{IsBlank, IsCacheOf, IsFirstSeen, cached_config}
use Rattle.read_section.specs.body.Seat.{TellsStage}
use Rattle.read_section.specs.View.{Shows}
use Rattle.read_section.specs.Worker.{WorkerValue, steps}
use Rattle.read_section.proofs.WorkerSeatLemmas.{version_is}

abbrev Seen : Type 0
Seen = WorkerView (List Group)

front_at : {A : Type 0} → (xs ys : List A) (n : ℕ) (d : A) → n < length xs → slice_index_or (xs ++ ys) n d ≡ slice_index_or xs n d
front_at [] ys n d low = absurd (omega arith)
front_at (x ∷ xs) ys zero d low = refl
front_at (x ∷ xs) ys (suc n) d low = front_at xs ys n d (omega arith)

pub goes_on_itself : (seen : List (List Group)) → BeginsWith seen seen
goes_on_itself seen = ([], sym (append-nil seen))

-- the version that the cache is of, as a worker has seen it that has seen more since
version_stays : (seen more : List (List Group)) (n : ℕ) → n < length seen → BeginsWith more seen → slice_index_or more n [] ≡ slice_index_or seen n []
version_stays seen more n low (rest, e) = ap (λ l. slice_index_or l n []) e ∙ front_at seen rest n [] low

seen_further : (seen more : List (List Group)) (n : ℕ) → n < length seen → BeginsWith more seen → n < length more
seen_further seen more n low (rest, e) = let long = ap length e in omega (arith, length-append seen rest)

module _ (view : Seen) (cache : CacheValue) (is : IsCacheOf view cache) where
  -- after steps that pin nothing
  pub cache_on : (view' : Seen) → view'.pages ≡ view.pages → BeginsWith view'.seen view.seen → last_pinned the_shape.rows view'.log ≡ last_pinned the_shape.rows view.log
      → ((k n r : ℕ) → view'.stage ≡ Inside k n r → n ≡ cache.version) → IsCacheOf view' cache
  cache_on view' pages seen last held = let same = version_stays view.seen view'.seen cache.version is.seen seen in record {
    pinned = is.pinned ∙ sym last;
    seen = seen_further view.seen view'.seen cache.version is.seen seen;
    held = held;
    form = λ some. subst (λ c. IsFormOf c view'.pages cache.form) (sym same) (subst (λ p. IsFormOf (cached_config view cache) p cache.form) (sym pages) (is.form some));
    extents = λ extent kept. subst (λ c. IsExtentOf c view'.pages extent) (sym same) (subst (λ p. IsExtentOf (cached_config view cache) p extent) (sym pages) (is.extents extent kept));
  }

  pub cache_fetched : (place x : ℕ) → IsCacheOf (after_fetch place x view) cache
  cache_fetched place x = cache_on (after_fetch place x view) refl (goes_on_itself view.seen) refl is.held

  pub cache_after_leave : IsCacheOf (after_leave view) cache
  cache_after_leave = cache_on (after_leave view) refl (goes_on_itself view.seen) refl (λ k n r e. absurd (outside_inside k n r e))
    where
      outside_inside : (k n r : ℕ) → Outside ≡ Inside k n r → ⊥
      outside_inside k n r e = subst is_outside e tt
        where
          is_outside : Stage → Type 0
          is_outside Outside = Unit {0}
          is_outside _ = ⊥

  -- inside, a peek changes nothing of the stage; elsewhere it is no longer inside
  peek_inside : (stage : Stage) (m k n r : ℕ) → stage_after_peek stage m ≡ Inside k n r → stage ≡ Inside k n r
  peek_inside Outside m k n r e = absurd (subst is_peeked e tt)
    where
      is_peeked : Stage → Type 0
      is_peeked (Peeked j) = Unit {0}
      is_peeked _ = ⊥
  peek_inside (Peeked j) m k n r e = absurd (subst is_peeked e tt)
    where
      is_peeked : Stage → Type 0
      is_peeked (Peeked j) = Unit {0}
      is_peeked _ = ⊥
  peek_inside (Announced j) m k n r e = absurd (subst is_peeked e tt)
    where
      is_peeked : Stage → Type 0
      is_peeked (Peeked j) = Unit {0}
      is_peeked _ = ⊥
  peek_inside (Inside k' n' r') m k n r e = e

  pub cache_peeked : (x : ℕ) (more : List (List Group)) → BeginsWith more view.seen → IsCacheOf (after_peek the_shape.rows x more view) cache
  cache_peeked x more further = cache_on (after_peek the_shape.rows x more view) refl further refl (λ k n r e. is.held k n r (peek_inside view.stage (x / the_shape.rows) k n r e))

  pub cache_announced : (x : ℕ) → IsCacheOf (after_announce x view) cache
  cache_announced x = cache_on (after_announce x view) refl (goes_on_itself view.seen) refl (λ k n r e. absurd (subst is_announced e tt))
    where
      is_announced : Stage → Type 0
      is_announced (Announced j) = Unit {0}
      is_announced _ = ⊥

  version_of_inside : (k m r k' n' r' : ℕ) → Inside k m r ≡ Inside k' n' r' → n' ≡ m
  version_of_inside k m r k' n' r' e = ap version (sym e)
    where
      version : Stage → ℕ
      version (Inside a b c) = b
      version _ = 0

  -- the version that a pin gives is not before that of the pin before
  pub pins_later : (x : ℕ) (more : List (List Group)) → Shows the_shape x more view.seen → cache.version ≤ x / ROWS
  pins_later x more shows = let low = seen_further view.seen more cache.version is.seen shows.goes_on in let count = shows.up_to_version in let v = version_is x in omega arith

  -- after a pin, with the cache set to the version that it gave
  pub cache_pinned : (x : ℕ) (more : List (List Group)) (pages : List ℕ) (cache' : CacheValue) → Shows the_shape x more view.seen → (x / the_shape.rows ≡ last_pinned the_shape.rows view.log → pages ≡ view.pages)
      → cache'.version ≡ x / ROWS → (cache.version ≡ x / ROWS → cache' ≡ cache) → (cache.version ≢ x / ROWS → cache'.form ≡ 0) → (cache.version ≢ x / ROWS → (extent : Extent) → IsCached cache' extent → ⊥)
      → IsCacheOf (after_pin the_shape.rows x more pages view) cache'
  cache_pinned x more pages cache' shows keeps version same no_form no_extents = let v = version_is x in let count = shows.up_to_version in dite (ℕ_discrete cache.version (x / ROWS))
      (λ (e : cache.version ≡ x / ROWS). subst (λ m. IsCacheOf (after_pin the_shape.rows x more pages view) m) (sym (same e)) (
      let config = version_stays view.seen more cache.version is.seen shows.goes_on in let kept = keeps (let p = is.pinned in omega arith) in record {
        pinned = (let g : cache.version ≡ x / the_shape.rows = omega arith in g);
        seen = seen_further view.seen more cache.version is.seen shows.goes_on;
        held = λ k n r at. version_of_inside _ _ _ k n r at ∙ (let g : x / the_shape.rows ≡ cache.version = omega arith in g);
        form = λ some. subst (λ c. IsFormOf c pages cache.form) (sym config) (subst (λ p. IsFormOf (cached_config view cache) p cache.form) (sym kept) (is.form some));
        extents = λ extent there. subst (λ c. IsExtentOf c pages extent) (sym config) (subst (λ p. IsExtentOf (cached_config view cache) p extent) (sym kept) (is.extents extent there));
      }))
      (λ (ne : cache.version ≢ x / ROWS). record {
        pinned = (let g : cache'.version ≡ x / the_shape.rows = omega arith in g);
        seen = (let g : cache'.version < length more = omega arith in g);
        held = λ k n r at. version_of_inside _ _ _ k n r at ∙ (let g : x / the_shape.rows ≡ cache'.version = omega arith in g);
        form = λ some. let none = no_form ne in absurd (omega arith);
        extents = λ extent there. absurd (no_extents ne extent there);
      })

  -- what it tells of the version that is held
  pub form_cached : 0 < cache.form → TellsForm view cache.form
  form_cached some k n r stage = subst (λ m. IsFormOf (slice_index_or view.seen m []) view.pages cache.form) (sym (is.held k n r stage)) (is.form some)

  pub extent_cached : (extent : Extent) → IsCached cache extent → TellsExtent view extent
  extent_cached extent kept k n r stage = subst (λ m. IsExtentOf (slice_index_or view.seen m []) view.pages extent) (sym (is.held k n r stage)) (is.extents extent kept)

  -- and what it may keep of that
  pub form_inserted : (form : ℕ) → IsFormIn view form → IsCacheOf view (record cache { form = form })
  form_inserted form (k, n, r, stage, of) = record {
    pinned = is.pinned;
    seen = is.seen;
    held = is.held;
    form = λ some. subst (λ m. IsFormOf (slice_index_or view.seen m []) view.pages form) (is.held k n r stage) of;
    extents = is.extents;
  }

  pub extent_inserted : (cache' : CacheValue) (extent : Extent) → IsExtentIn view extent → cache'.version ≡ cache.version → cache'.form ≡ cache.form → ((other : Extent) → IsCached cache' other → (other ≡ extent) ⊎ IsCached cache other) → IsCacheOf view cache'
  extent_inserted cache' extent (k, n, r, stage, of) version form others =
      let here = subst (λ m. IsExtentOf (slice_index_or view.seen m []) view.pages extent) (is.held k n r stage) of in record {
        pinned = version ∙ is.pinned;
        seen = subst (λ m. m < length view.seen) (sym version) is.seen;
        held = λ k' n' r' at. is.held k' n' r' at ∙ sym version;
        form = λ some. subst (λ m. IsFormOf (slice_index_or view.seen m []) view.pages cache'.form) (sym version) (subst (λ f. IsFormOf (cached_config view cache) view.pages f) (sym form) (is.form (subst (λ f. 0 < f) form some)));
        extents = λ other kept. subst (λ m. IsExtentOf (slice_index_or view.seen m []) view.pages other) (sym version)
            (⊎_elim (λ (e : other ≡ extent). subst (λ p. IsExtentOf (cached_config view cache) view.pages p) (sym e) here) (λ old. is.extents other old) (others other kept));
      }

-- a new worker
pub cache_first : (view : Seen) (cache : CacheValue) → IsFirstSeen view → IsBlank cache → ((k n r : ℕ) → view.stage ≡ Inside k n r → ⊥) → IsCacheOf view cache
cache_first view cache first blank outside = record {
  pinned = blank.0 ∙ sym first.0;
  seen = (let v = blank.0 in let some = first.1 in omega arith);
  held = λ k n r e. absurd (outside k n r e);
  form = λ some. let none = blank.1 in absurd (omega arith);
  extents = λ extent kept. absurd (blank.2 extent kept);
}

-- a peek leaves a section's stage as it is
pub stage_peeked : (held : Option ℕ) (stage : Stage) → TellsStage held stage → (n : ℕ) → TellsStage held (stage_after_peek stage n)
stage_peeked None Outside at n = tt
stage_peeked None (Peeked m) at n = tt
stage_peeked None (Announced k) at n = absurd at
stage_peeked None (Inside k m r) at n = absurd at
stage_peeked (Some m) stage (r, inside) n = (r, peeked_inside stage (read_word_of stage) m r inside n)
  where
    peeked_inside : (stage : Stage) (k m r : ℕ) → stage ≡ Inside k m r → (n : ℕ) → stage_after_peek stage n ≡ Inside (read_word_of (stage_after_peek stage n)) m r
    peeked_inside stage k m r e n = subst (λ s. stage_after_peek s n ≡ Inside (read_word_of (stage_after_peek s n)) m r) (sym e) refl

-- after a peek and an announce
pub announced_after : (worker : WorkerValue) (cache : CacheValue) → IsCacheOf worker.view cache → (one two : WorkerValue) (x : ℕ) (seen : List (List Group)) (k : ℕ) → Shows the_shape x seen worker.view.seen
    → one ≡ steps (after_peek the_shape.rows x seen) worker → two ≡ steps (after_announce k) one → IsCacheOf two.view cache
announced_after worker cache is one two x seen k shows e1 e2 =
    let after_one : IsCacheOf one.view cache = subst (λ (w : WorkerValue). IsCacheOf w.view cache) (sym e1) (cache_peeked worker.view cache is x seen shows.goes_on) in
    subst (λ (w : WorkerValue). IsCacheOf w.view cache) (sym e2) (cache_announced one.view cache after_one k)
