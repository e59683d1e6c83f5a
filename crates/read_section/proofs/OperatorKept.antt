-- The operator's steps keep the rule, and what each tells.
use Rattle.std.proofs.Common.{Contains, ◌≡◌, ℕ, ◌+◌, ◌%◌, ◌^◌, ◌-◌, ◌<◌, ◌≤◌, List, [], ◌∷◌, Some, ap, arith, refl, set, slice_index, subst, sym, ◌∙◌}
use Rattle.std.proofs.lemmas.List.{append-nil}
use Rattle.std.proofs.lemmas.Nat.{mod-mul-add}
use mathlib.Core.Option.{some, some-injective}
use lib.ListN.{get_elem?}
use Rattle.atomic_table.specs.Table.{Allows, Me, keeps}
use Rattle.atomic_table.specs.Table as table
use Rattle.versions.specs.declared.step.Step.TheVariants.{Fill, Publish, Scan}
use Rattle.versions.specs.declared.step.Entry.{Entry}
use Rattle.versions.specs.declared.step.Event.TheVariants.{Proposed, Stepped}
use Rattle.versions.specs.declared.view.WorkerView.{WorkerView}
use Rattle.versions.specs.declared.view.OperatorView.{OperatorView}
use Rattle.versions.specs.Layout.{HoldsForm, Shape, current_word, pages_named, rows_begin}
use Rattle.versions.specs.View.{after_fill, after_proposal, after_publish, after_scan, read_word_after}
use Rattle.versions.specs.Free.{IsFreeRow, number_after}
use Rattle.versions.specs.State.{State, after_event, log_of}
use Rattle.versions.specs.Legal.{IsLegalStep, IsLogOf, MayFill}
use Rattle.versions.proofs.ListLemmas.{elem_there}
use Rattle.versions.proofs.Coherence.{Coheres, holds-on, log_of_is}
use Rattle.read_section.specs.declared.versions_rule.SeatView.{SeatView}
use Rattle.read_section.specs.body.Plays.{OperatorKnows, fills, publishes, scans}
use Rattle.read_section.specs.VersionsRule.{IsLeftByTrace}
use Rattle.read_section.specs.View.{TellsLog}
use Rattle.read_section.specs.body.SeatView.{with_operator}
use Rattle.read_section.proofs.ListLemmas.{contains_snoc}
use Rattle.read_section.proofs.VersionsRuleLemmas.{IsLeftByTrace-operator, for_operator, loaded, now, rule_now}

module _ {C : Type 0} (shape : Shape C) where
  -- the words of the table hold what the operator's words hold
  holds_stored : (s : State C) → Coheres shape s → (r : ℕ) (config : C) (pages : List ℕ) → r < shape.rows → HoldsForm shape 0 s.operator.stored r config pages → HoldsForm shape (rows_begin shape) s.words r config pages
  holds_stored s h r config pages low = holds-on shape 0 (rows_begin shape) s.operator.stored s.words r config pages low
      (λ i inside. h.stored i inside ∙ ap (slice_index s.operator.stored) (let g : i ≡ 0 + i = omega arith in g))

module _ {C : Type 0} (shape : Shape C) (IsPublishable : C → Type 0) {S : Type 0} (config : C) where
  abbrev Kept : table.State S (SeatView C) → Type 0
  Kept = IsLeftByTrace shape IsPublishable config

  pub allows_fill : (slots id : ℕ) (me : Me S (SeatView C)) (view : OperatorView C) (place x : ℕ) (at : table.Step S) → me.0.operator ≡ Some view → MayFill shape view place → x < 2 ^ 64 → at.word ≡ place
      → Allows Kept slots id me place (λ _. x) (λ _. fills shape at me x)
  allows_fill slots id me view place x at is may_fill fit here s kept deep there fits =
      let st = now shape IsPublishable config s kept in let mine = (kept.each_seat id me.0 there).operator view is in let view' : OperatorView C = after_fill (1 + shape.workers) place x view in
      let may : IsLegalStep shape st (Fill place x) x = (subst (λ (y : OperatorView C). MayFill shape y place) mine.1 may_fill, fit, refl) in (
        with_operator me.0 view',
        keeps,
        tt,
        subst (λ ws. Kept record { words = set ws place x; homes = s.homes; views = set s.views id (with_operator me.0 view') }) (sym kept.words)
            (IsLeftByTrace-operator shape IsPublishable config s kept id me.0 view view' (Stepped (Fill place x) x ∷ kept.trace) (set st.words place x) there is (kept.legal, may)
            (ap (λ (y : OperatorView C). let u : State C = record { words = set st.words place x; workers = st.workers; operator = after_fill (1 + shape.workers) place x y } in u) (sym mine.1)) ([], sym (append-nil view.published))
            (subst (λ (y : OperatorView C). (c : C) → Contains y.published c → IsPublishable c) (sym mine.1) kept.publishable)),
        for_operator me.0 view is (λ b. OperatorKnows shape me (with_operator me.0 view', me.1) (after_fill (1 + shape.workers) at.word x b))
            (ap (λ (q : ℕ). let u : Me S (SeatView C) = (with_operator me.0 (after_fill (1 + shape.workers) q x view), me.1) in u) (sym here)),
      )

  pub allows_publish : (slots id : ℕ) (me : Me S (SeatView C)) (view : OperatorView C) (r x : ℕ) (new : C) (at : table.Step S) → me.0.operator ≡ Some view → IsFreeRow shape view r → shape.charge new ≤ shape.charge_limit → IsPublishable new
      → HoldsForm shape 0 view.stored r new (pages_named shape view.stored r) → number_after view.log < shape.last_number → x ≡ current_word shape (number_after view.log + 1) r → at.word ≡ 0
      → Allows Kept slots id me 0 (λ _. x) (λ _. publishes shape new at me x)
  allows_publish slots id me view r x new at is free light publishable holds low number here s kept deep there fits =
      let st = now shape IsPublishable config s kept in let mine = (kept.each_seat id me.0 there).operator view is in let view' : OperatorView C = after_publish r x (pages_named shape view.stored r) (after_proposal new view) in
      let proposed : State C = after_event shape st (Proposed new) in let same : st.operator ≡ view = sym mine.1 in
      let may : IsLegalStep shape proposed (Publish r) x = (
        record {
          free = subst (λ (y : OperatorView C). IsFreeRow shape y r) mine.1 free;
          config = new;
          proposed = refl;
          holds = holds_stored shape st (rule_now shape IsPublishable config s kept) r new (pages_named shape st.operator.stored r) free.0
              (subst (λ (y : OperatorView C). HoldsForm shape 0 y.stored r new (pages_named shape y.stored r)) mine.1 holds);
          number = subst (λ (y : OperatorView C). number_after y.log < shape.last_number) mine.1 low;
        },
        number ∙ ap (λ (y : OperatorView C). current_word shape (number_after y.log + 1) r) mine.1,
      ) in
      let row_is : x % shape.rows ≡ r = ap (λ (q : ℕ). q % shape.rows) number ∙ mod-mul-add (number_after view.log + 1) shape.rows r free.0 in (
        with_operator me.0 view',
        keeps,
        tt,
        subst (λ ws. Kept record { words = set ws 0 x; homes = s.homes; views = set s.views id (with_operator me.0 view') }) (sym kept.words)
            (IsLeftByTrace-operator shape IsPublishable config s kept id me.0 view view' (Stepped (Publish r) x ∷ Proposed new ∷ kept.trace) (set st.words 0 x) there is ((kept.legal, light), may)
            (ap (λ (y : OperatorView C). let u : State C = record { words = set st.words 0 x; workers = st.workers; operator = after_publish r x (pages_named shape y.stored r) (after_proposal new y) } in u) same) (new ∷ [], refl)
            (λ c there'. contains_snoc IsPublishable view.published new c (subst (λ (y : OperatorView C). (c : C) → Contains y.published c → IsPublishable c) same kept.publishable) publishable there')),
        for_operator me.0 view is (λ y. (at.word ≡ 0) × OperatorKnows shape me (with_operator me.0 view', me.1) (after_publish (x % shape.rows) x (pages_named shape y.stored (x % shape.rows)) (after_proposal new y)))
            (here, ap (λ (q : ℕ). let u : Me S (SeatView C) = (with_operator me.0 (after_publish q x (pages_named shape view.stored q) (after_proposal new view)), me.1) in u) (sym row_is)),
      )

  pub allows_scan : (slots id : ℕ) (me : Me S (SeatView C)) (view : OperatorView C) (w : ℕ) (at : table.Step S) → me.0.operator ≡ Some view → w < shape.workers → at.word ≡ 1 + w
      → Allows Kept slots id me (1 + w) (λ x. x) (scans shape at me)
  allows_scan slots id me view w at is low here s kept deep there fits =
      let st = now shape IsPublishable config s kept in let x : ℕ = slice_index s.words (1 + w) in let ours = kept.each_seat id me.0 there in let mine = ours.operator view is in let h = rule_now shape IsPublishable config s kept in
      let log : List Entry = log_of st.workers w in let view' : OperatorView C = after_scan w x log view in let is_x : x ≡ slice_index st.words (1 + w) = ap (λ ws. slice_index ws (1 + w)) kept.words in
      let many = h.workers_length in let found = elem_there st.workers w (omega arith) in let worker : WorkerView C = found.0 in let ok = h.each_worker w worker found.1 in let log_is = log_of_is st.workers w worker found.1 in
      let tells : TellsLog shape view w x log = record {
        own = subst (IsLogOf shape w) (sym log_is) ok.own.order;
        read = is_x ∙ (ok.read_word ∙ (ok.told ∙ ap read_word_after (sym log_is)));
        goes_on = λ older q. let g = ok.scanned older (subst (λ (y : OperatorView C). get_elem? y.scanned_logs w ≡ some older) mine.1 q) in (g.0, log_is ∙ g.1);
      } in
      let here_log : (b : WorkerView C) → me.0.worker ≡ Some b → b.number ≡ w → log ≡ b.log = λ b q n. log_is ∙ ap (λ (y : WorkerView C). y.log) (some-injective worker b (sym found.1 ∙ (ap (get_elem? st.workers) (sym n) ∙ (ours.worker b q).1))) in
      let place_is : (1 + w) - 1 ≡ w = omega arith in
      let reached : after_event shape st (Stepped (Scan (1 + w)) x) ≡ record { words = st.words; workers = st.workers; operator = view' } =
      ap (λ (q : ℕ). let u : State C = record { words = st.words; workers = st.workers; operator = after_scan q x (log_of st.workers q) st.operator } in u) place_is
      ∙ ap (λ (y : OperatorView C). let u : State C = record { words = st.words; workers = st.workers; operator = after_scan w x log y } in u) (sym mine.1) in (
        with_operator me.0 view',
        keeps,
        tt,
        loaded shape IsPublishable config s (1 + w) (set s.views id (with_operator me.0 view'))
            (subst (λ ws. Kept record { words = ws; homes = s.homes; views = set s.views id (with_operator me.0 view') }) (sym kept.words)
            (IsLeftByTrace-operator shape IsPublishable config s kept id me.0 view view' (Stepped (Scan (1 + w)) x ∷ kept.trace) st.words there is (kept.legal, (w, low, refl, is_x)) reached ([], sym (append-nil view.published))
            (subst (λ (y : OperatorView C). (c : C) → Contains y.published c → IsPublishable c) (sym mine.1) kept.publishable))),
        for_operator me.0 view is (λ y. (v : ℕ) → at.word ≡ 1 + v → (l : List Entry) × TellsLog shape y v x l × ((b : WorkerView C) → me.0.worker ≡ Some b → b.number ≡ v → l ≡ b.log) × OperatorKnows shape me (with_operator me.0 view', me.1) (after_scan v x l y))
            (λ v q. let same : w ≡ v = omega arith in
            subst (λ (v : ℕ). (l : List Entry) × TellsLog shape view v x l × ((b : WorkerView C) → me.0.worker ≡ Some b → b.number ≡ v → l ≡ b.log) × OperatorKnows shape me (with_operator me.0 view', me.1) (after_scan v x l view)) same
            (log, tells, here_log, refl)),
      )
