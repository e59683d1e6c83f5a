-- Fetches of words of the version that is held, one after another.
use Rattle.std.proofs.Common.{◌≡◌, ℕ, suc, ◌+◌, ◌<◌, List, [], ◌∷◌, ◌++◌, ap, append_assoc, arith, length, length-append, refl, slice_index_or, subst, sym, ◌∙◌}
use Rattle.config_image.specs.Image.{Group}
use Rattle.versions.specs.declared.step.Step.{Step}
use Rattle.versions.specs.declared.step.Step.TheVariants.{Fetch}
use Rattle.versions.specs.declared.step.Entry.{Entry}
use Rattle.versions.specs.declared.view.Stage.TheVariants.{Inside}
use Rattle.versions.specs.declared.view.WorkerView.{WorkerView}
use Rattle.versions.specs.Safety.{IsHeldPlace}
use Rattle.versions.specs.Step.{entry}
use Rattle.versions.specs.View.{after_fetch}
use Rattle.versions.specs.Table.{the_shape}
use Rattle.read_section.specs.Reads.{AreFetchesIn, Fetched, FetchedAtMost, Reads, TellsWordAt, with_log}
use Rattle.read_section.specs.Section.{at_pin, before_fetch, before_fetches}
use Rattle.read_section.specs.Worker.{WorkerValue, steps}
use Rattle.read_section.specs.body.Steps.{SeesWord}

pub none_fetched : (worker : WorkerValue) → Fetched 0 worker worker
none_fetched worker = record { fetches = []; counted = refl; only = refl; each = tt }

AreFetchesIn-append : (view : WorkerView (List Group)) (xs ys : List Entry) → AreFetchesIn view xs → AreFetchesIn view ys → AreFetchesIn view (xs ++ ys)
AreFetchesIn-append view [] ys a b = b
AreFetchesIn-append view (x ∷ xs) ys a b = (a.0, AreFetchesIn-append view xs ys a.1 b)

module _ (n : ℕ) (before mid : WorkerValue) (f : Fetched n before mid) where
  -- what a fetch tells then is told of the worker before
  pub sees_before : (place x : ℕ) → SeesWord mid place x → SeesWord before place x
  sees_before place x sees = subst (λ (w : WorkerValue). SeesWord w place x) f.only sees

  pub held_after : (place : ℕ) → IsHeldPlace the_shape before.view place → IsHeldPlace the_shape mid.view place
  held_after place held = subst (λ (w : WorkerValue). IsHeldPlace the_shape w.view place) (sym f.only) held

  module _ (after : WorkerValue) (place x : ℕ) (e : after ≡ steps (after_fetch place x) mid) (held : IsHeldPlace the_shape before.view place) where
    one_more : after ≡ with_log (entry (Fetch before.view.number place) x ∷ (f.fetches ++ before.view.log)) before
    one_more = e ∙ ap (steps (after_fetch place x)) f.only

    pub fetched_more : Fetched (suc n) before after
    fetched_more = record { fetches = entry (Fetch before.view.number place) x ∷ f.fetches; counted = ap suc f.counted; only = one_more; each = ((place, refl, held), f.each) }

    -- the last one tells a word
    pub read_last : (most i answer : ℕ) → n < most → ((k m r : ℕ) → before.view.stage ≡ Inside k m r → TellsWordAt (slice_index_or before.view.seen m []) r before.view.pages i place x answer) → Reads most i answer before after
    read_last most i answer few newest = record { place = place; loaded = x; older = f.fetches; few = (let counted = f.counted in omega arith); only = one_more; each = ((place, refl, held), f.each); newest = newest }

-- fetches after others
pub fetched_further : (n m : ℕ) (before mid after : WorkerValue) → Fetched n before mid → Fetched m mid after → Fetched (m + n) before after
fetched_further n m before mid after f g = go (subst (λ (w : WorkerValue). Fetched m w after) f.only g)
  where
    go : Fetched m (with_log (f.fetches ++ before.view.log) before) after → Fetched (m + n) before after
    go h = record {
      fetches = h.fetches ++ f.fetches;
      counted = (let first = f.counted in let last = h.counted in omega (arith, length-append h.fetches f.fetches));
      only = h.only ∙ ap (λ l. with_log l before) (sym (append_assoc h.fetches f.fetches before.view.log));
      each = AreFetchesIn-append before.view h.fetches f.fetches h.each f.each;
    }

-- a read after one more fetch in front
pub read_behind : (most i answer place x : ℕ) (before mid after : WorkerValue) → mid ≡ steps (after_fetch place x) before → IsHeldPlace the_shape before.view place → Reads most i answer mid after → Reads (suc most) i answer before after
read_behind most i answer place x before mid after e held reads = go (subst (λ (w : WorkerValue). Reads most i answer w after) e reads)
  where
    first : Entry
    first = entry (Fetch before.view.number place) x

    go : Reads most i answer (steps (after_fetch place x) before) after → Reads (suc most) i answer before after
    go r = record {
      place = r.place;
      loaded = r.loaded;
      older = r.older ++ first ∷ [];
      few = (let few = r.few in omega (arith, length-append r.older (first ∷ [])));
      only = r.only ∙ ap (λ l. with_log (entry (Fetch before.view.number r.place) r.loaded ∷ l) before) (sym (append_assoc r.older (first ∷ []) before.view.log));
      each = (r.each.0, AreFetchesIn-append before.view r.older (first ∷ []) r.each.1 ((place, refl, held), tt));
      newest = r.newest;
    }

-- a read makes fetches
pub fetched_in : (most i answer : ℕ) (before after : WorkerValue) → Reads most i answer before after → FetchedAtMost most before after
fetched_in most i answer before after r = let few = r.few in
    (suc (length r.older), omega arith, record { fetches = entry (Fetch before.view.number r.place) r.loaded ∷ r.older; counted = refl; only = r.only; each = r.each })

-- a log without the fetches that it ends with is the same after more of them
pub before_more : (view : WorkerView (List Group)) (fetches log : List Entry) → AreFetchesIn view fetches → before_fetches (fetches ++ log) ≡ before_fetches log
before_more view [] log each = refl
before_more view (newest ∷ older) log each = ap (λ (s : Step). before_fetch s (newest ∷ (older ++ log)) (before_fetches (older ++ log))) each.0.1 ∙ before_more view older log each.1

-- so a read leaves the worker as it was at its pin
pub pinned_kept : (most i answer : ℕ) (before after : WorkerValue) → Reads most i answer before after → at_pin after ≡ at_pin before
pinned_kept most i answer before after r = ap at_pin r.only ∙ ap (λ l. with_log l before) (before_more before.view (entry (Fetch before.view.number r.place) r.loaded ∷ r.older) before.view.log r.each)
