-- Counts one after the other, and a reading as a whole.
use Rattle.std.proofs.Common.{◌≡◌, ◌∙◌, ◌+◌, ◌<◌, ◌≤◌, ◌∷◌, ◌++◌, List, None, Option, Some, [], ap, ap₂, append_assoc, arith, codes, decimal, get_or, length, map, refl, subst, suc, sym, take, zero, ℕ}
use Rattle.std.specs.Prelude.{IfSome}
use Rattle.std.proofs.lemmas.List.{map-append}
use Rattle.control_client.specs.Exchange.{Exchange}
use Rattle.control_rules.specs.History.{History}
use Rattle.counter_text.specs.declared.counters.Counters.{Counters}
use Rattle.control_counters.specs.Frame.{IsFrameOf}
use Rattle.control_counters.specs.Counts.{count_exchanges}
use Rattle.control_counters.specs.Reading.{AreCountersOf, IsNamed}
use Rattle.control_counters.specs.body.Framed.{AreCountsOf, HasFrameOf}

take-more : {X : Type 0} (xs : List X) (i : ℕ) (d : X) → i < length xs → take (i + 1) xs ≡ take i xs ++ get_or xs i d ∷ []
take-more [] i d inside = absurd (omega arith)
take-more (x ∷ xs) zero d inside = refl
take-more (x ∷ xs) (suc i) d inside =
    let same : suc i + 1 ≡ suc (i + 1) = omega arith in
    ap (λ k. take k (x ∷ xs)) same ∙ ap (λ rest. x ∷ rest) (take-more xs i d (omega arith))

pub all_taken : {X : Type 0} (xs : List X) (n : ℕ) → length xs ≤ n → take n xs ≡ xs
all_taken [] zero all = refl
all_taken [] (suc n) all = refl
all_taken (x ∷ xs) zero all = absurd (omega arith)
all_taken (x ∷ xs) (suc n) all = ap (λ rest. x ∷ rest) (all_taken xs n (omega arith))

module _ {X S : Type 0} (view : X → S) (tell : X → Exchange) (known items : List X) where
  -- what was counted of the first of those that are known
  abbrev pub AreCounted : ℕ → List X → List Exchange → Type 0
  AreCounted count counted told = (map view counted ≡ map view (take count known)) × (told ≡ map tell counted)

  pub counted_more : (i : ℕ) (d one : X) (items' : List X) (told first more : List Exchange) → i < length known → AreCounted i items first →
      (view one ≡ view (get_or known i d)) × (more ≡ tell one ∷ []) → told ≡ first ++ more → items' ≡ items ++ one ∷ [] → AreCounted (i + 1) items' told
  counted_more i d one items' told first more inside before last whole pushed = (
    ap (map view) pushed ∙ map-append view items (one ∷ []) ∙ ap₂ (λ (front : List S) (s : S). front ++ s ∷ []) before.0 last.0
        ∙ sym (map-append view (take i known) (get_or known i d ∷ [])) ∙ ap (map view) (sym (take-more known i d inside)),
    whole ∙ ap₂ (λ (a b : List Exchange). a ++ b) before.1 last.1 ∙ sym (map-append tell items (one ∷ [])) ∙ ap (map tell) (sym pushed),
  )

-- the frame of an earlier reading is that of the next one
pub same_frame : (history : History) (known counters : Counters) → HasFrameOf known counters → IsFrameOf (history known.version) known →
    IsFrameOf (history counters.version) counters
same_frame history known counters same frame =
    let config = history known.version in
    subst (λ version. IsFrameOf (history version) counters) (sym same.version)
    (record { groups = same.groups ∙ frame.groups; members = same.members ∙ frame.members; charge = ap decimal same.charge ∙ frame.charge })

pub counters_after : (history : History) (version : ℕ) (told one more : List Exchange) (known counters : Counters) → told ≡ one ++ more → known.version ≡ version →
    IsFrameOf (history known.version) known → HasFrameOf known counters × (more ≡ count_exchanges counters) → AreCountsOf history version told counters
counters_after history version told one more known counters whole same frame counted = record {
  before = one;
  is_version = counted.0.version ∙ same;
  frame = same_frame history known counters counted.0 frame;
  counted = whole ∙ ap (λ it. one ++ it) counted.1;
}

pub named_first : (told one more : List Exchange) (version : ℕ) → told ≡ one ++ more → IsNamed one version → IsNamed told version
named_first told one more version whole it = record {
  before = it.before;
  after = it.after ++ more;
  reply = it.reply;
  more = it.more;
  whole = whole ∙ ap (λ front. front ++ more) it.whole ∙ append_assoc it.before (record { line = codes "show"; reply = it.reply } ∷ it.after) more;
  names = it.names;
}

pub named_last : (told one more : List Exchange) (version : ℕ) → told ≡ one ++ more → IsNamed more version → IsNamed told version
named_last told one more version whole it = record {
  before = one ++ it.before;
  after = it.after;
  reply = it.reply;
  more = it.more;
  whole = whole ∙ ap (λ rest. one ++ rest) it.whole ∙ sym (append_assoc one it.before (record { line = codes "show"; reply = it.reply } ∷ it.after));
  names = it.names;
}

-- counts of the version that was shown before
pub shown_counters : (history : History) (version : ℕ) (told one more : List Exchange) (counters : Counters) → told ≡ one ++ more → IsNamed one version →
    AreCountsOf history version more counters → AreCountersOf history told counters
shown_counters history version told one more counters whole named it = record {
  before = one ++ it.before;
  named = subst (IsNamed told) (sym it.is_version) (named_first told one more version whole named);
  frame = it.frame;
  counted = whole ∙ ap (λ rest. one ++ rest) it.counted ∙ sym (append_assoc one it.before (count_exchanges counters));
}

pub later_counters : (history : History) (told one more : List Exchange) (counters : Counters) → told ≡ one ++ more → AreCountersOf history more counters →
    AreCountersOf history told counters
later_counters history told one more counters whole it = record {
  before = one ++ it.before;
  named = named_last told one more counters.version whole it.named;
  frame = it.frame;
  counted = whole ∙ ap (λ rest. one ++ rest) it.counted ∙ sym (append_assoc one it.before (count_exchanges counters));
}

pub some_all : {X : Type 0} (P Q : X → Type 0) → ((x : X) → P x → Q x) → (option : Option X) → IfSome option P → IfSome option Q
some_all P Q weaker None holds = tt
some_all P Q weaker (Some x) holds = weaker x holds
