-- A worker's steps keep the rule, and what each tells.
use Rattle.std.proofs.Common.{◌≡◌, ℕ, ◌+◌, ◌/◌, ◌≤◌, List, Some, [], ap, refl, set, slice_index, slice_index_or, subst, sym}
use Rattle.atomic_table.specs.Table.{Allows, Me, keeps}
use Rattle.atomic_table.specs.Table as table
use Rattle.versions.specs.declared.step.Step.TheVariants.{Announce, Fetch, Leave, Peek, Pin}
use Rattle.versions.specs.declared.view.Stage.TheVariants.{Announced, Inside, Peeked}
use Rattle.versions.specs.declared.view.WorkerView.{WorkerView}
use Rattle.versions.specs.Layout.{Shape}
use Rattle.versions.specs.View.{after_announce, after_fetch, after_leave, after_peek, after_pin, last_pinned, up_to}
use Rattle.versions.specs.Legal.{MayPeek}
use Rattle.versions.specs.Safety.{IsOwnLog, IsSeenPlace}
use Rattle.read_section.specs.declared.versions_rule.SeatView.{SeatView}
use Rattle.read_section.specs.body.Plays.{ShowsSeat, TellsWord, WorkerKnows, announces, fetches, leaves, peeks, pins}
use Rattle.read_section.specs.VersionsRule.{IsLeftByTrace}
use Rattle.read_section.specs.body.SeatView.{with_worker}
use Rattle.read_section.proofs.HeldLemmas.{holds_place, tells_word}
use Rattle.read_section.proofs.VersionsRuleLemmas.{IsLeftByTrace-worker, for_worker, loaded, now, pages_kept, rule_now, shown}

module _ {C : Type 0} (shape : Shape C) (IsPublishable : C → Type 0) {S : Type 0} (config : C) where
  abbrev Kept : table.State S (SeatView C) → Type 0
  Kept = IsLeftByTrace shape IsPublishable config

  pub allows_peek : (slots id : ℕ) (me : Me S (SeatView C)) (view : WorkerView C) (at : table.Step S) → me.0.worker ≡ Some view → shape.workers ≤ me.0.spare → MayPeek view.stage → at.word ≡ 0
      → Allows Kept slots id me 0 (λ n. n) (peeks shape IsPublishable at me)
  allows_peek slots id me view at is no_spare may here s kept deep there fits =
      let x : ℕ = slice_index s.words 0 in let mine = (kept.each_seat id me.0 there).worker view is in let e : x ≡ slice_index (now shape IsPublishable config s kept).words 0 = ap (λ ws. slice_index ws 0) kept.words in
      let seen = up_to (x / shape.rows) (now shape IsPublishable config s kept).operator.published in let f : WorkerView C → WorkerView C = after_peek shape.rows x seen in
      let step = IsLeftByTrace-worker shape IsPublishable config s kept id me.0 view (Peek view.number) x f (now shape IsPublishable config s kept).words there is no_spare refl ((view, mine.1, may), e) refl in (
        with_worker me.0 (f view),
        keeps,
        tt,
        loaded shape IsPublishable config s 0 (set s.views id (with_worker me.0 (f view)))
            (subst (λ ws. Kept record { words = ws; homes = s.homes; views = set s.views id (with_worker me.0 (f view)) }) (sym kept.words) step),
        for_worker me.0 view is (λ b. (at.word ≡ 0) × ((l : List C) × ShowsSeat shape IsPublishable me.0 b x l × WorkerKnows shape me (with_worker me.0 (f view), me.1) (after_peek shape.rows x l b)))
            (here, (seen, shown shape IsPublishable config s kept id me.0 view x there is e, refl)),
      )

  pub allows_announce : (slots id : ℕ) (me : Me S (SeatView C)) (view : WorkerView C) (n x : ℕ) (at : table.Step S) → me.0.worker ≡ Some view → shape.workers ≤ me.0.spare → view.stage ≡ Peeked n → x ≡ n + 1 → at.word ≡ 1 + view.number
      → Allows Kept slots id me (1 + view.number) (λ _. x) (λ _. announces shape at me x)
  allows_announce slots id me view n x at is no_spare stage e here s kept deep there fits =
      let mine = (kept.each_seat id me.0 there).worker view is in let f : WorkerView C → WorkerView C = after_announce x in let words = (now shape IsPublishable config s kept).words in
      let step = IsLeftByTrace-worker shape IsPublishable config s kept id me.0 view (Announce view.number) x f (set words (1 + view.number) x) there is no_spare refl (view, mine.1, (n, stage, e)) refl in (
        with_worker me.0 (f view),
        keeps,
        tt,
        subst (λ ws. Kept record { words = set ws (1 + view.number) x; homes = s.homes; views = set s.views id (with_worker me.0 (f view)) }) (sym kept.words) step,
        for_worker me.0 view is (λ b. (at.word ≡ 1 + b.number) × WorkerKnows shape me (with_worker me.0 (f view), me.1) (after_announce x b)) (here, refl),
      )

  pub allows_pin : (slots id : ℕ) (me : Me S (SeatView C)) (view : WorkerView C) (k : ℕ) (at : table.Step S) → me.0.worker ≡ Some view → shape.workers ≤ me.0.spare → view.stage ≡ Announced k → at.word ≡ 0
      → Allows Kept slots id me 0 (λ n. n) (pins shape IsPublishable at me)
  allows_pin slots id me view k at is no_spare stage here s kept deep there fits =
      let x : ℕ = slice_index s.words 0 in let mine = (kept.each_seat id me.0 there).worker view is in let e : x ≡ slice_index (now shape IsPublishable config s kept).words 0 = ap (λ ws. slice_index ws 0) kept.words in
      let seen = up_to (x / shape.rows) (now shape IsPublishable config s kept).operator.published in let pages = slice_index_or (now shape IsPublishable config s kept).operator.version_pages (x / shape.rows) [] in let f : WorkerView C → WorkerView C = after_pin shape.rows x seen pages in
      let step = IsLeftByTrace-worker shape IsPublishable config s kept id me.0 view (Pin view.number) x f (now shape IsPublishable config s kept).words there is no_spare refl ((view, mine.1, (k, stage)), e) refl in (
        with_worker me.0 (f view),
        keeps,
        tt,
        loaded shape IsPublishable config s 0 (set s.views id (with_worker me.0 (f view)))
            (subst (λ ws. Kept record { words = ws; homes = s.homes; views = set s.views id (with_worker me.0 (f view)) }) (sym kept.words) step),
        for_worker me.0 view is (λ b. (at.word ≡ 0) × ((l : List C) × (ps : List ℕ) × ShowsSeat shape IsPublishable me.0 b x l × (x / shape.rows ≡ last_pinned shape.rows b.log → ps ≡ b.pages)
            × WorkerKnows shape me (with_worker me.0 (f view), me.1) (after_pin shape.rows x l ps b)))
            (here, (seen, pages, shown shape IsPublishable config s kept id me.0 view x there is e, pages_kept shape IsPublishable config s kept id me.0 view (x / shape.rows) there is, refl)),
      )

  pub allows_fetch : (slots id : ℕ) (me : Me S (SeatView C)) (view : WorkerView C) (k n r place : ℕ) (at : table.Step S) → me.0.worker ≡ Some view → shape.workers ≤ me.0.spare → view.stage ≡ Inside k n r → IsSeenPlace shape view.seen view.pages n r place → at.word ≡ place
      → Allows Kept slots id me place (λ x. x) (fetches shape at me)
  allows_fetch slots id me view k n r place at is no_spare stage seen here s kept deep there fits =
      let x : ℕ = slice_index s.words place in let mine = (kept.each_seat id me.0 there).worker view is in let st = now shape IsPublishable config s kept in
      let e : x ≡ slice_index st.words place = ap (λ ws. slice_index ws place) kept.words in let f : WorkerView C → WorkerView C = after_fetch place x in
      let word : (j m q : ℕ) → view.stage ≡ Inside j m q → TellsWord shape view.seen view.pages m q at.word x = λ j m q stage'.
      subst (λ (p : ℕ). TellsWord shape view.seen view.pages m q at.word (slice_index s.words p)) here (tells_word shape IsPublishable config s kept id me.0 view j m q there is stage' at.word) in
      let step = IsLeftByTrace-worker shape IsPublishable config s kept id me.0 view (Fetch view.number place) x f st.words there is no_spare refl ((view, mine.1, (k, n, r, stage)), holds_place shape IsPublishable config s kept id me.0 view k n r there is stage place seen, e) refl in
      let same : after_fetch place x view ≡ after_fetch at.word x view = ap (λ (q : ℕ). after_fetch q x view) (sym here) in (
        with_worker me.0 (f view),
        keeps,
        tt,
        loaded shape IsPublishable config s place (set s.views id (with_worker me.0 (f view)))
            (subst (λ ws. Kept record { words = ws; homes = s.homes; views = set s.views id (with_worker me.0 (f view)) }) (sym kept.words) step),
        for_worker me.0 view is (λ b. WorkerKnows shape me (with_worker me.0 (f view), me.1) (after_fetch at.word x b) × ((j m q : ℕ) → b.stage ≡ Inside j m q → TellsWord shape b.seen b.pages m q at.word x))
            (ap (λ (y : WorkerView C). let u : Me S (SeatView C) = (with_worker me.0 y, me.1) in u) same, word),
      )

  pub allows_leave : (slots id : ℕ) (me : Me S (SeatView C)) (view : WorkerView C) (k n r : ℕ) (at : table.Step S) → me.0.worker ≡ Some view → shape.workers ≤ me.0.spare → view.stage ≡ Inside k n r → at.word ≡ 1 + view.number
      → Allows Kept slots id me (1 + view.number) (λ _. 0) (λ _. leaves shape at me 0)
  allows_leave slots id me view k n r at is no_spare stage here s kept deep there fits =
      let mine = (kept.each_seat id me.0 there).worker view is in let f : WorkerView C → WorkerView C = after_leave in let words = (now shape IsPublishable config s kept).words in let stored : ℕ = 0 in
      let step = IsLeftByTrace-worker shape IsPublishable config s kept id me.0 view (Leave view.number) 0 f (set words (1 + view.number) 0) there is no_spare refl (view, mine.1, (k, n, r, stage, refl)) refl in (
        with_worker me.0 (f view),
        keeps,
        tt,
        subst (λ ws. Kept record { words = set ws (1 + view.number) 0; homes = s.homes; views = set s.views id (with_worker me.0 (f view)) }) (sym kept.words) step,
        for_worker me.0 view is (λ b. (at.word ≡ 1 + b.number) × (stored ≡ 0) × IsOwnLog shape b.number b × WorkerKnows shape me (with_worker me.0 (f view), me.1) (after_leave b)) (here, refl, ((rule_now shape IsPublishable config s kept).each_worker view.number view mine.1).own, refl),
      )
