-- The words of a version that a worker holds, in a state of the table that the rule allows.
use Rattle.std.proofs.Common.{◌≡◌, ◌⊎◌, ℕ, Some, ap, inl, inr, slice_index, subst, sym, ◌∙◌}
use mathlib.Core.Option.{some}
use lib.ListN.{get_elem?}
use Rattle.atomic_table.specs.Table as table
use Rattle.versions.specs.declared.step.Step.TheVariants.{Fetch, Fill}
use Rattle.versions.specs.declared.view.Stage.TheVariants.{Inside}
use Rattle.versions.specs.declared.view.WorkerView.{WorkerView}
use Rattle.versions.specs.Layout.{HoldsForm, IsInRow, IsPartPlace, Shape, rows_begin}
use Rattle.versions.specs.State.{HoldsVersion, State}
use Rattle.versions.specs.Legal.{HoldsPlace, IsLegalStep}
use Rattle.versions.specs.Safety.{IsFormWord, IsHeldPlace, IsHeldPlaceAt, IsSeenPlace}
use Rattle.versions.specs.Table.{the_shape}
use Rattle.versions.proofs.ListLemmas.{elem_prefix, elem_same}
use Rattle.versions.proofs.Coherence.{Coheres}
use Rattle.versions.proofs.HeldVersions.{IsKept, config_seen, held_is_kept, pages_known, word_of_seen}
use Rattle.versions.proofs.SafetyLemmas.{form_word, keeps_held, word_is_form}
use Rattle.read_section.specs.declared.versions_rule.SeatView.{SeatView}
use Rattle.read_section.specs.Layout.{IsPublishable}
use Rattle.read_section.specs.body.Plays.{TellsWord}
use Rattle.read_section.specs.VersionsRule.{IsLeftByTrace}
use Rattle.read_section.specs.Held.{FetchesHeldWord, HeldWordsStand, HeldWordsStay, HeldWordsUnfilled, IsSeenWord}
use Rattle.read_section.proofs.VersionsRuleLemmas.{now, reached, rule_now}

module _ {C : Type 0} (shape : Shape C) (IsPublishable : C → Type 0) {S : Type 0} (config : C) (s : table.State S (SeatView C)) (kept : IsLeftByTrace shape IsPublishable config s)
    (seat : ℕ) (known : SeatView C) (view : WorkerView C) (k n r : ℕ) (there : get_elem? s.views seat ≡ some known) (worker : known.worker ≡ Some view) (stage : view.stage ≡ Inside k n r) where
  abbrev state : State C
  state = now shape IsPublishable config s kept

  abbrev rule : Coheres shape state
  rule = rule_now shape IsPublishable config s kept

  abbrev at_number : get_elem? state.workers view.number ≡ some view
  at_number = ((kept.each_seat seat known there).worker view worker).1

  abbrev pub holder : HoldsVersion state view.number n r
  holder = (view, k, at_number, stage)

  abbrev held : IsKept shape state n r
  held = held_is_kept shape state rule view.number n r holder

  -- the row and the worker's pages hold what the worker has seen as version n
  seen_holds : (c : C) → get_elem? view.seen n ≡ some c → HoldsForm shape (rows_begin shape) state.words r c view.pages
  seen_holds c seen = subst (HoldsForm shape (rows_begin shape) state.words r c) (sym (pages_known shape state rule view.number n r holder))
      (subst (λ (y : C). HoldsForm shape (rows_begin shape) state.words r y held.pages) (elem_same view.seen n held.config c (config_seen shape state rule view.number n r holder) seen) held.holds)

  -- a place of the version, which the worker knows
  pub seen_place : (place : ℕ) → IsHeldPlace shape view place → IsSeenPlace shape view.seen view.pages n r place
  seen_place place = subst (λ q. IsHeldPlaceAt shape q view.seen view.pages place) stage

  form_place : (place : ℕ) → IsSeenPlace shape view.seen view.pages n r place → (c : C) × (get_elem? view.seen n ≡ some c) × (IsInRow shape r place ⊎ IsPartPlace shape c view.pages place)
  form_place place (inl in_row) = (held.config, config_seen shape state rule view.number n r holder, inl in_row)
  form_place place (inr (c, seen, part)) = (c, seen, inr part)

  word_left : (place : ℕ) → slice_index s.words place ≡ slice_index state.words place
  word_left place = ap (λ ws. slice_index ws place) kept.words

  pub held_word : (place : ℕ) → IsSeenPlace shape view.seen view.pages n r place → IsSeenWord shape view n r place (slice_index s.words place)
  held_word place seen = let t = form_place place seen in
      (t.0, t.1, subst (IsFormWord shape r t.0 view.pages place) (sym (word_left place)) (form_word shape state r t.0 view.pages place (seen_holds t.0 t.1) t.2))

  -- a word that is loaded is the version's, if the version has one there
  pub tells_word : (place : ℕ) → TellsWord shape view.seen view.pages n r place (slice_index s.words place)
  tells_word place = let seen = config_seen shape state rule view.number n r holder in let holds = seen_holds held.config seen in
      record { config = held.config; seen = seen; counted = holds.counted; below = holds.below; word = λ y word. word_left place ∙ word_is_form shape state r held.config view.pages place y holds word }

  -- the word that the worker may see there is the one that stands there
  pub seen_word_is : (place x : ℕ) → IsSeenWord shape view n r place x → slice_index s.words place ≡ x
  seen_word_is place x (c, seen, word) = word_left place ∙ word_is_form shape state r c view.pages place x (seen_holds c seen) word

  pub holds_place : (place : ℕ) → IsSeenPlace shape view.seen view.pages n r place → HoldsPlace shape state view.number place
  holds_place place seen = (n, r, holder, word_of_seen shape state rule view.number n r holder place seen)

  pub fetched_is_seen : (place x : ℕ) → IsSeenPlace shape view.seen view.pages n r place → IsLegalStep shape state (Fetch view.number place) x → IsSeenWord shape view n r place x
  fetched_is_seen place x seen legal = subst (IsSeenWord shape view n r place) (word_left place ∙ sym legal.2) (held_word place seen)

  pub seen_is_fetched : (place x : ℕ) → IsSeenPlace shape view.seen view.pages n r place → IsSeenWord shape view n r place x → IsLegalStep shape state (Fetch view.number place) x
  seen_is_fetched place x seen word = ((view, at_number, (k, n, r, stage)), holds_place place seen, sym (seen_word_is place x word) ∙ word_left place)

  pub held_unfilled : (place word x : ℕ) → IsSeenPlace shape view.seen view.pages n r place → IsLegalStep shape state (Fill place word) x → ⊥
  held_unfilled place word x seen legal = (keeps_held shape state (reached shape IsPublishable config s kept)).not_filled view.number n r place word x holder legal (word_of_seen shape state rule view.number n r holder place seen)

pub words_stand : HeldWordsStand
words_stand config state view n r place allowed h held = held_word the_shape IsPublishable config state allowed h.seat h.known view h.read_word n r h.there h.worker h.inside place
    (seen_place the_shape IsPublishable config state allowed h.seat h.known view h.read_word n r h.there h.worker h.inside place held)

pub words_stay : HeldWordsStay
words_stay config earlier later view view' n r place allowed allowed' h h' told pages held =
    let was = words_stand config earlier view n r place allowed h held in
    let still : get_elem? view'.seen n ≡ some was.0 = ap (λ l. get_elem? l n) told.1 ∙ elem_prefix view.seen told.0 n was.0 was.1 in
    seen_word_is the_shape IsPublishable config later allowed' h'.seat h'.known view' h'.read_word n r h'.there h'.worker h'.inside place (slice_index earlier.words place)
    (was.0, still, subst (λ l. IsFormWord the_shape r was.0 l place (slice_index earlier.words place)) (sym pages) was.2)

pub fetch_exact : FetchesHeldWord
fetch_exact config state view n r place x allowed h held =
    let seen = seen_place the_shape IsPublishable config state allowed h.seat h.known view h.read_word n r h.there h.worker h.inside place held in (
      fetched_is_seen the_shape IsPublishable config state allowed h.seat h.known view h.read_word n r h.there h.worker h.inside place x seen,
      seen_is_fetched the_shape IsPublishable config state allowed h.seat h.known view h.read_word n r h.there h.worker h.inside place x seen,
    )

pub not_filled : HeldWordsUnfilled
not_filled config state view n r place word x allowed h held = held_unfilled the_shape IsPublishable config state allowed h.seat h.known view h.read_word n r h.there h.worker h.inside place word x
    (seen_place the_shape IsPublishable config state allowed h.seat h.known view h.read_word n r h.there h.worker h.inside place held)
