-- Fills of a row: the words that they leave, and what they keep.
use Rattle.std.proofs.Common.{◌≡◌, ◌≢◌, ◌∙◌, ℕ, ◌+◌, ◌-◌, ◌*◌, ◌<◌, ◌≤◌, List, [], ◌∷◌, ◌++◌, add-one, ap, append_assoc, arith, get_or, inl, inr, length, length-append, refl, suc, slice_index, subst, sym, take, zero, ⊎_elim}
use Rattle.std.proofs.lemmas.List.{get_or-append_right, get_or-take, get_or_append_left, length-take-le}
use Rattle.std.proofs.lemmas.Option.{get_or_from_slice_get}
use mathlib.Core.Logic.{dite}
use native.Mathlib.Decide.{dec_le, ℕ_discrete}
use Rattle.config_image.specs.declared.TheConstants.{PAGE_WORDS, ROW_WORDS}
use Rattle.config_image.specs.Image.{Group, programs_begin}
use Rattle.config_image.specs.Pooled.{ArePages, PooledRowTells, parts, pooled_row}
use Rattle.config_image.proofs.PooledLemmas.{row_tells_with_room}
use Rattle.versions.specs.declared.layout.TheConstants.{ROWS}
use Rattle.versions.specs.declared.step.Step.TheVariants.{Fill}
use Rattle.versions.specs.declared.step.Entry.{Entry}
use Rattle.versions.specs.View.{after_fill}
use Rattle.versions.specs.Pooled.{HasRoom}
use Rattle.versions.specs.Layout.{row_begin, rows_begin}
use Rattle.versions.specs.Step.{entry}
use Rattle.versions.specs.Free.{IsFreeRow}
use Rattle.versions.specs.Table.{the_shape}
use Rattle.read_section.specs.Operator.{OperatorValue}
use Rattle.read_section.proofs.FilledLemmas.{pool_word_kept, word_at, word_filled, word_kept}
use Rattle.retire.specs.body.Filling.{Fills, FillsFrom, FillsFront, FillsOther, FillsRow, HoldsFront, HoldsRow, KeepsPool}
use Rattle.retire.specs.Publish.{IsFillOf, KeepsOtherRows}
use Rattle.retire.specs.body.Sink.{IsFilling, SinkValue, front_of, taken_of}
use Rattle.retire.proofs.RowLemmas.{contains_append, contains_first}

module _ (IsFill : Entry → Type 0) where
  pub no_steps : (o : OperatorValue) → Fills o o IsFill
  no_steps o = record {
    fills = [];
    filled = λ newest c. absurd (let l = c.1 in omega arith);
    log = refl;
    free_rows = λ r free. free;
    free_pages = λ q free. free;
    were_free = λ q free. free;
    number = refl;
    published = refl;
    version_rows = refl;
    version_pages = refl;
    scanned_logs = refl;
    table = refl;
    reported = refl;
  }

  pub one_step_more : (before now : OperatorValue) (place x : ℕ) → Fills before now IsFill → IsFill (entry (Fill place x) x)
      → Fills before (record now { view = after_fill (rows_begin the_shape) place x now.view }) IsFill
  one_step_more before now place x h is = record {
    fills = entry (Fill place x) x ∷ h.fills;
    filled = λ newest c. ⊎_elim (λ same. subst IsFill same is) (λ later. h.filled newest later) (contains_first (entry (Fill place x) x) newest h.fills c);
    log = ap (λ l. entry (Fill place x) x ∷ l) h.log;
    free_rows = h.free_rows;
    free_pages = h.free_pages;
    were_free = h.were_free;
    number = h.number;
    published = h.published;
    version_rows = h.version_rows;
    version_pages = h.version_pages;
    scanned_logs = h.scanned_logs;
    table = h.table;
    reported = h.reported;
  }

  -- fills after fills
  pub steps_then : (before now after : OperatorValue) → Fills before now IsFill → Fills now after IsFill → Fills before after IsFill
  steps_then before now after h more = record {
    fills = more.fills ++ h.fills;
    filled = λ newest c. ⊎_elim (more.filled newest) (h.filled newest) (contains_append more.fills h.fills newest c);
    log = more.log ∙ (ap (λ l. more.fills ++ l) h.log ∙ sym (append_assoc more.fills h.fills before.view.log));
    free_rows = λ r free. more.free_rows r (h.free_rows r free);
    free_pages = λ q free. more.free_pages q (h.free_pages q free);
    were_free = λ q free. h.were_free q (more.were_free q free);
    number = more.number ∙ h.number;
    published = more.published ∙ h.published;
    version_rows = more.version_rows ∙ h.version_rows;
    version_pages = more.version_pages ∙ h.version_pages;
    scanned_logs = more.scanned_logs ∙ h.scanned_logs;
    table = more.table ∙ h.table;
    reported = more.reported ∙ h.reported;
  }

-- the same fills, said in another way
pub steps_on : (P Q : Entry → Type 0) → ((e : Entry) → P e → Q e) → (before after : OperatorValue) → Fills before after P → Fills before after Q
steps_on P Q f before after h = record {
  fills = h.fills;
  filled = λ newest c. f newest (h.filled newest c);
  log = h.log;
  free_rows = h.free_rows;
  free_pages = h.free_pages;
  were_free = h.were_free;
  number = h.number;
  published = h.published;
  version_rows = h.version_rows;
  version_pages = h.version_pages;
  scanned_logs = h.scanned_logs;
  table = h.table;
  reported = h.reported;
}

-- ---- the first words of a row

length-front_of : (o : OperatorValue) (r n : ℕ) → length (front_of o r n) ≡ n
length-front_of o r zero = refl
length-front_of o r (suc n) = length-append (front_of o r n) (word_at o r n ∷ []) ∙ (ap (λ (k : ℕ). k + 1) (length-front_of o r n) ∙ add-one n)

same_front : (o p : OperatorValue) (r n : ℕ) → ((i : ℕ) → i < n → word_at p r i ≡ word_at o r i) → front_of p r n ≡ front_of o r n
same_front o p r zero kept = refl
same_front o p r (suc n) kept = ap (λ l. l ++ word_at p r n ∷ []) (same_front o p r n (λ i below. kept i (omega arith))) ∙ ap (λ (x : ℕ). front_of o r n ++ x ∷ []) (kept n (omega arith))

pub no_fills : (o : OperatorValue) (r : ℕ) (words : List ℕ) → IsFreeRow the_shape o.view r → FillsFrom o o r words
no_fills o r words free =
    record { steps = no_steps (IsFillOf o.view.stored r words) o; either = λ i small. inl refl; others = λ q i ne in_rows inside. refl; pool = λ q k low small. refl; still_free = free }

-- the same fills by a list that has the same words at their places
pub same_fills : (before now : OperatorValue) (r : ℕ) (words more : List ℕ) → FillsFrom before now r words → ((i : ℕ) → i < length words → (i < length more) × (slice_index more i ≡ slice_index words i)) → FillsFrom before now r more
same_fills before now r words more h same = record {
  steps = steps_on (IsFillOf before.view.stored r words) (IsFillOf before.view.stored r more) (λ newest t. let s = same t.place t.inside in record {
    place = t.place;
    inside = s.0;
    differs = λ e. t.differs (e ∙ s.1);
    fill = t.fill ∙ (λ j. entry (Fill (row_begin the_shape r + t.place) (sym s.1 j)) (sym s.1 j));
  }) before now h.steps;
  either = λ i small. ⊎_elim inl (λ t. let s = same i t.0 in inr (s.0, t.1 ∙ sym s.1)) (h.either i small);
  others = h.others;
  pool = h.pool;
  still_free = h.still_free;
}

-- ---- one word more, unless it stands there

module _ (before now after : OperatorValue) (r place word : ℕ) (low : r < ROWS) (small : place < ROW_WORDS) (stored : FillsOther now after r place word) where
  pub other_there : word_at after r place ≡ word
  other_there = ⊎_elim (λ t. word_filled now after r place word low small t.1 t.2) (λ t. ap (λ (o : OperatorValue). word_at o r place) t.1 ∙ t.0) stored

  pub other_kept : (i : ℕ) → i < ROW_WORDS → i ≢ place → word_at after r i ≡ word_at now r i
  other_kept i inside ne = ⊎_elim (λ t. word_kept now after r place word low small t.1 t.2 r i inside (inr ne)) (λ t. ap (λ (o : OperatorValue). word_at o r i) t.1) stored

  other_rows_kept : KeepsOtherRows r before now → KeepsOtherRows r before after
  other_rows_kept h q i ne in_rows far = ⊎_elim
      (λ t. word_kept now after r place word low small t.1 t.2 q i far (inl ne) ∙ h q i ne in_rows far)
      (λ t. ap (λ (o : OperatorValue). word_at o q i) t.1 ∙ h q i ne in_rows far) stored

  pool_kept : KeepsPool before now → KeepsPool before after
  pool_kept h q k under short = ⊎_elim
      (λ t. pool_word_kept now after r place word low small t.1 t.2 q k ∙ h q k under short)
      (λ t. ap (λ (o : OperatorValue). slice_index o.view.stored (ROWS * ROW_WORDS + (q * PAGE_WORDS + k))) t.1 ∙ h q k under short) stored

  -- a word that is to be stored was another one before, too
  was_other : (words : List ℕ) → FillsFrom before now r words → word ≡ slice_index words place → word_at now r place ≢ word → word_at before r place ≢ slice_index words place
  was_other words h is ne same = ⊎_elim (λ kept. ne (kept ∙ (same ∙ sym is))) (λ t. ne (t.1 ∙ sym is)) (h.either place small)

  pub one_other_more : (words : List ℕ) → FillsFrom before now r words → place < length words → word ≡ slice_index words place → FillsFrom before after r words
  one_other_more words h inside is = record {
    steps = ⊎_elim
        (λ t. subst (λ (o : OperatorValue). Fills before o (IsFillOf before.view.stored r words)) (sym t.2) (one_step_more (IsFillOf before.view.stored r words) before now (row_begin the_shape r + place) word h.steps (record {
          place = place;
          inside = inside;
          differs = was_other words h is t.0;
          fill = λ i. entry (Fill (row_begin the_shape r + place) (is i)) (is i);
        })))
        (λ t. subst (λ (o : OperatorValue). Fills before o (IsFillOf before.view.stored r words)) (sym t.1) h.steps) stored;
    either = λ i far. dite (ℕ_discrete i place)
        (λ same. inr (omega arith, ap (word_at after r) same ∙ (other_there ∙ (is ∙ ap (slice_index words) (sym same)))))
        (λ ne. ⊎_elim (λ kept. inl (other_kept i far ne ∙ kept)) (λ t. inr (t.0, other_kept i far ne ∙ t.1)) (h.either i far));
    others = other_rows_kept h.others;
    pool = pool_kept h.pool;
    still_free = ⊎_elim (λ t. subst (λ (o : OperatorValue). IsFreeRow the_shape o.view r) (sym t.2) h.still_free) (λ t. subst (λ (o : OperatorValue). IsFreeRow the_shape o.view r) (sym t.1) h.still_free) stored;
  }

  -- the first words of the row are one more
  pub front_grows : front_of after r (place + 1) ≡ front_of now r place ++ word ∷ []
  front_grows = ap (front_of after r) (add-one place)
      ∙ (ap (λ l. l ++ word_at after r place ∷ []) (same_front now after r place (λ i below. other_kept i (omega arith) (λ same. omega arith)))
      ∙ ap (λ (x : ℕ). front_of now r place ++ x ∷ []) other_there)

  pub one_word_more : FillsFront before now r (front_of now r place) → FillsFront before after r (front_of after r (place + 1))
  one_word_more h = subst (FillsFront before after r) (sym front_grows) record {
    fills = one_other_more words (same_fills before now r front words h.fills (λ i inside. (omega (arith, length-append front (word ∷ [])), earlier i inside))) (omega (arith, length-append front (word ∷ []), long)) last;
    front = λ i inside. dite (ℕ_discrete i place)
        (λ same. ap (word_at after r) same ∙ (other_there ∙ (last ∙ ap (slice_index words) (sym same))))
        (λ ne. let below : i < length front = omega (arith, length-append front (word ∷ []), long) in other_kept i (omega (arith, long)) ne ∙ (h.front i below ∙ sym (earlier i below)));
  }
    where
      front : List ℕ
      front = front_of now r place

      words : List ℕ
      words = front ++ word ∷ []

      long : length front ≡ place
      long = length-front_of now r place

      earlier : (i : ℕ) → i < length front → slice_index words i ≡ slice_index front i
      earlier i inside = get_or_append_left front (word ∷ []) 0 i inside

      none : place - length front ≡ 0
      none = omega (arith, long)

      last : word ≡ slice_index words place
      last = sym (get_or-append_right front (word ∷ []) (length front) place 0 refl (omega (arith, long)) ∙ ap (λ (k : ℕ). get_or (word ∷ []) k 0) none)

-- ---- the sink

pub filling_begins : (lent now : OperatorValue) (r : ℕ) → lent ≡ now → IsFreeRow the_shape now.view r → IsFilling lent now r 0
filling_begins lent now r is free = subst (λ (l : OperatorValue). IsFilling l now r 0) (sym is) record { inside = omega arith; fills = record { fills = no_fills now r [] free; front = λ i low. absurd (omega arith) } }

-- what was taken tells that the borrow stayed, and which words the row begins with
pub same_borrow : (sink : SinkValue) (borrow r : ℕ) (words : List ℕ) → taken_of sink ≡ borrow ∷ r ∷ words → sink.borrow ≡ borrow
same_borrow sink borrow r words took = cc

pub front_is_filled : (sink : SinkValue) (lent before after : OperatorValue) → after ≡ sink.operator → lent ≡ before → (borrow r : ℕ) (words : List ℕ) → taken_of sink ≡ borrow ∷ r ∷ words → IsFilling lent sink.operator sink.row sink.place → FillsFront before after r words
front_is_filled sink lent before after last is borrow r words took h =
    subst (λ (o : OperatorValue). FillsFront o after r words) is (subst (λ (o : OperatorValue). FillsFront lent o r words) (sym last)
    (subst (FillsFront lent sink.operator r) front (subst (λ (q : ℕ). FillsFront lent sink.operator q (front_of sink.operator sink.row sink.place)) same_row h.fills)))
  where
    same_row : sink.row ≡ r
    same_row = cc

    front : front_of sink.operator sink.row sink.place ≡ words
    front = cc

-- ---- the row's first words are written: the others are zeros then

-- the words of a row behind a place are zeros
abbrev pub ZerosBehind : OperatorValue → ℕ → ℕ → Type 0
ZerosBehind o r from = (i : ℕ) → from ≤ i → i < ROW_WORDS → word_at o r i ≡ 0

module _ (now after : OperatorValue) (r place : ℕ) (low : r < ROWS) (small : place < ROW_WORDS) (stored : FillsOther now after r place 0) where
  pub one_zero_more : ZerosBehind now r (place + 1) → ZerosBehind after r place
  one_zero_more behind i up inside = dite (ℕ_discrete i place)
      (λ same. ap (word_at after r) same ∙ other_there now now after r place 0 low small stored)
      (λ other. other_kept now now after r place 0 low small stored i inside other ∙ behind i (omega arith) inside)

  pub front_kept : (n : ℕ) (words : List ℕ) → n ≤ place → HoldsFront now r words n → HoldsFront after r words n
  front_kept n words up front i below = other_kept now now after r place 0 low small stored i (omega arith) (λ same. omega arith) ∙ front i below

module _ (config : List Group) (pages : List ℕ) (room : HasRoom config) (are : ArePages config pages) where
  abbrev tells : PooledRowTells config pages
  tells = row_tells_with_room config pages room are

  abbrev all : List ℕ
  all = pooled_row config pages

  abbrev front_len : ℕ
  front_len = programs_begin config + length (parts config)

  pub front_inside : front_len ≤ ROW_WORDS
  front_inside = omega (arith, tells.inside, tells.short)

  pub length-front : length (take front_len all) ≡ front_len
  length-front = length-take-le front_len all (omega (arith, front_inside, tells.whole))

  pub length-all : length all ≡ ROW_WORDS
  length-all = tells.whole

  -- the fills of the front are fills of the row
  pub front_fills : (before now : OperatorValue) (r : ℕ) → FillsFrom before now r (take front_len all) → FillsRow before now r config pages
  front_fills before now r fills = same_fills before now r (take front_len all) all fills
      (λ i inside. (omega (arith, length-front, front_inside, tells.whole), sym (get_or-take front_len all i 0 (omega (arith, length-front)))))

  pub front_holds : (now : OperatorValue) (r : ℕ) → ((i : ℕ) → i < length (take front_len all) → word_at now r i ≡ slice_index (take front_len all) i) → HoldsFront now r all front_len
  front_holds now r front i inside = front i (omega (arith, length-front)) ∙ get_or-take front_len all i 0 inside

  pub zero_behind : (i : ℕ) → front_len ≤ i → i < ROW_WORDS → slice_index all i ≡ 0
  zero_behind i up low = get_or_from_slice_get all i 0 0 (tells.zeros i up low)

  pub holds_all : (o : OperatorValue) (r len : ℕ) → len ≡ front_len → HoldsFront o r all len → ZerosBehind o r len → HoldsRow o r all
  holds_all o r len is front behind i small = dite (dec_le (suc i) len)
      (λ below. front i (omega arith))
      (λ up. behind i (omega arith) small ∙ sym (zero_behind i (omega arith) small))
