-- The last run of a log, after those before it.
use Rattle.std.proofs.Common.{◌≡◌, ◌==◌, ◌&&◌, ◌+◌, ◌-◌, ◌%◌, ◌<◌, ◌≤◌, ◌^◌, ◌∙◌, ◌++◌, ◌∷◌, Bool, IsSome, List, None, Option, Some, [], ap, ap₂, arith, false, length, nat_eq, not, refl, sym, true, ℕ}
use Rattle.std.proofs.lemmas.Bool.Decides.{Decides-and, Decides-eqb, Decides-like, nat_tests, same_from_decides}
use Rattle.std.specs.Option.{option_eq}
use Rattle.ipv4_fields.specs.declared.endpoint.Endpoint.{Endpoint}
use Rattle.member_counts.specs.declared.counts.Counts.{Counts}
use Rattle.member_counts.specs.declared.key.CountKey.{CountKey}
use Rattle.member_counts.specs.declared.log.Run.{Run}
use Rattle.member_counts.specs.Counts.{capped, delivered_one, failed_one, no_counts, plus}
use Rattle.member_counts.specs.Key.{member_key, same_group, same_key}
use Rattle.member_counts.specs.Log.{Log, earlier_runs, last_failed, last_key, last_run, marked_failed, with_counts, with_run}
use Rattle.member_counts.specs.body.Runs.{IsPacked, group_number, has_run, is_sent, number_of, packed_one, packets, runs, unpacked, whole}
use Rattle.member_counts.proofs.KeyLemmas.{same_key_from}
use Rattle.member_counts.proofs.SumLemmas.{Bytes, Delivered, Dropped, Kind, NoMembers, SendFailed, capped-below, capped-plus, of, of-no_counts, of-plus}

-- counts are the same if each kind is
same_counts : (counts other : Counts) → ((kind : Kind) → of kind counts ≡ of kind other) → counts ≡ other
same_counts counts other same =
    let make : ℕ → ℕ → ℕ → ℕ → ℕ → Counts = λ delivered dropped no_members send_failed bytes.
    record { delivered = delivered; dropped = dropped; no_members = no_members; send_failed = send_failed; bytes = bytes } in
    ap₂ (λ (f : ℕ → Counts) n. f n)
    (ap₂ (λ (f : ℕ → ℕ → Counts) n. f n)
    (ap₂ (λ (f : ℕ → ℕ → ℕ → Counts) n. f n)
    (ap₂ make (same Delivered) (same Dropped))
    (same NoMembers))
    (same SendFailed))
    (same Bytes)

-- counts that are a sum stay the same if nothing is added
pub sum-none : (counts more : Counts) → plus (plus counts more) no_counts ≡ plus counts more
sum-none counts more =
    same_counts (plus (plus counts more) no_counts) (plus counts more) (λ kind.
    of-plus kind (plus counts more) no_counts
    ∙ ap₂ (λ a b. capped (a + b)) (of-plus kind counts more) (of-no_counts kind)
    ∙ capped-plus (of kind counts + of kind more) 0
    ∙ ap capped (omega arith) ∙ sym (of-plus kind counts more))

-- so do counts that fit
pub fits-none : (counts : Counts) → plus no_counts counts ≡ counts → plus counts no_counts ≡ counts
fits-none counts fits = ap (λ c. plus c no_counts) (sym fits) ∙ sum-none no_counts counts ∙ fits

-- counts are added in turn or at once
pub in-turn : (sum counts more : Counts) → plus (plus sum counts) more ≡ plus sum (plus counts more)
in-turn sum counts more =
    same_counts (plus (plus sum counts) more) (plus sum (plus counts more)) (λ kind.
    of-plus kind (plus sum counts) more
    ∙ ap (λ n. capped (n + of kind more)) (of-plus kind sum counts)
    ∙ capped-plus (of kind sum + of kind counts) (of kind more)
    ∙ ap capped (omega arith)
    ∙ sym (capped-plus (of kind counts + of kind more) (of kind sum))
    ∙ ap capped (omega arith)
    ∙ ap (λ n. capped (of kind sum + n)) (sym (of-plus kind counts more))
    ∙ sym (of-plus kind sum (plus counts more)))

pub none-in-turn : (sum more : Counts) → plus sum more ≡ plus sum (plus no_counts more)
none-in-turn sum more =
    same_counts (plus sum more) (plus sum (plus no_counts more)) (λ kind.
    of-plus kind sum more
    ∙ ap capped (omega arith)
    ∙ sym (capped-plus (of kind more) (of kind sum))
    ∙ ap (λ n. capped (n + of kind sum)) (ap capped (omega arith) ∙ ap (λ n. capped (n + of kind more)) (sym (of-no_counts kind)) ∙ sym (of-plus kind no_counts more))
    ∙ ap capped (omega arith)
    ∙ sym (of-plus kind sum (plus no_counts more)))

-- one packet more is packed
pub packed-more : (packed bytes : ℕ) → IsPacked packed → packed + packed_one bytes < 2 ^ 128
    → (packets (packed + packed_one bytes) ≡ packets packed + 1)
    × ((unpacked (packed + packed_one bytes)).bytes ≡ (unpacked packed).bytes + bytes)
    × IsPacked (packed + packed_one bytes)
packed-more packed bytes is fits = (omega (arith, is, fits), omega (arith, is, fits), omega (arith, is, fits))

pub whole-more : (counts : Counts) (packed bytes : ℕ) → IsPacked packed → packed + packed_one bytes < 2 ^ 128
    → plus counts (unpacked (packed + packed_one bytes)) ≡ plus (plus counts (unpacked packed)) (delivered_one bytes)
whole-more counts packed bytes is fits =
    let more = packed-more packed bytes is fits in
    same_counts (plus counts (unpacked (packed + packed_one bytes))) (plus (plus counts (unpacked packed)) (delivered_one bytes)) (λ kind.
    of-plus kind counts (unpacked (packed + packed_one bytes))
    ∙ ap (λ n. capped (of kind counts + n)) (by kind more.0 more.1)
    ∙ ap capped (omega arith)
    ∙ sym (capped-plus (of kind counts + of kind (unpacked packed)) (of kind (delivered_one bytes)))
    ∙ ap (λ n. capped (n + of kind (delivered_one bytes))) (sym (of-plus kind counts (unpacked packed)))
    ∙ sym (of-plus kind (plus counts (unpacked packed)) (delivered_one bytes)))
  where
    by : (kind : Kind) → packets (packed + packed_one bytes) ≡ packets packed + 1
        → (unpacked (packed + packed_one bytes)).bytes ≡ (unpacked packed).bytes + bytes
        → of kind (unpacked (packed + packed_one bytes)) ≡ of kind (unpacked packed) + of kind (delivered_one bytes)
    by Delivered one all = one
    by Dropped one all = refl
    by NoMembers one all = refl
    by SendFailed one all = refl
    by Bytes one all = all

module _ (key : CountKey) (counts : Counts) where
  same : (earlier : List Run) (last : Run) → same_key last.key key ≡ true
      → earlier ++ record last { counts = plus last.counts counts } ∷ [] ≡ with_run key counts (earlier ++ last ∷ [])
  same [] last is = rw is refl
  same (first ∷ []) last is = ap (λ runs. first ∷ runs) (same [] last is)
  same (first ∷ (next ∷ rest)) last is = ap (λ runs. first ∷ runs) (same (next ∷ rest) last is)

  -- counts of another key are a new run, and so are the first ones
  pub next-run : (kept : CountKey) (entries : List Run) → same_key (last_key kept entries) key ≡ false
      → entries ++ record { key = key; counts = counts } ∷ [] ≡ with_run key counts entries
  next-run kept [] other = refl
  next-run kept (last ∷ []) other = rw other refl
  next-run kept (first ∷ (next ∷ rest)) other = ap (λ runs. first ∷ runs) (next-run kept (next ∷ rest) other)

  -- counts of the key of the last run are added to it, or are the first run of an empty log that keeps the key
  pub run-again : (earlier : List Run) (has_counts : Bool) (last : Run) (packed : ℕ) (sum : Counts)
      → (has_run has_counts packed ≡ false → (length earlier ≡ 0) × (packed ≡ 2 ^ 65 - 1)) → (has_counts ≡ false → last.counts ≡ no_counts)
      → last.key ≡ key → sum ≡ plus (whole last packed).counts counts → plus no_counts counts ≡ counts
      → earlier ++ record last { counts = sum } ∷ [] ≡ with_run key counts (runs earlier (has_run has_counts packed) (whole last packed))
  run-again earlier true last packed sum none empty own is fits = rw is (same earlier (whole last packed) (same_key_from last.key key own))
  run-again earlier false last packed sum none empty own is fits = by (has_run false packed) refl
    where
      by : (has : Bool) → has_run false packed ≡ has
          → earlier ++ record last { counts = sum } ∷ [] ≡ with_run key counts (runs earlier (has_run false packed) (whole last packed))
      by true there = rw (there, is) (same earlier (whole last packed) (same_key_from last.key key own))
      by false there = rw there (first earlier (none there).0 (none there).1)
        where
          first : (before : List Run) → length before ≡ 0 → packed ≡ 2 ^ 65 - 1 → before ++ record last { counts = sum } ∷ [] ≡ with_run key counts before
          first [] short nothing =
              let zero : plus (whole last packed).counts counts ≡ counts =
              ap₂ (λ base n. plus (plus base (unpacked n)) counts) (empty refl) nothing ∙ fits in
              ap₂ (λ (key : CountKey) (counts : Counts). record { key = key; counts = counts } ∷ []) own (is ∙ zero)
          first (run ∷ before) short nothing = absurd (omega (arith, short))

last-key-is : (kept : CountKey) (earlier : List Run) (last : Run) → last_key kept (earlier ++ last ∷ []) ≡ last.key
last-key-is kept [] last = refl
last-key-is kept (first ∷ []) last = refl
last-key-is kept (first ∷ (next ∷ rest)) last = last-key-is kept (next ∷ rest) last

-- the key of a log is that of its last run, whether it has counts or not
last-key : (earlier : List Run) (has : Bool) (last : Run) → (has ≡ false → length earlier ≡ 0) → last_key last.key (runs earlier has last) ≡ last.key
last-key earlier true last none = last-key-is last.key earlier last
last-key [] false last none = refl
last-key (run ∷ earlier) false last none = let empty = none refl in absurd (omega (arith, empty))

-- counts of a key need no room exactly if it is the key of the last run, whether that has counts or not
pub has-last_key : (key : CountKey) (earlier : List Run) (has : Bool) (last : Run) → (has ≡ false → length earlier ≡ 0)
    → same_key (last_key last.key (runs earlier has last)) key ≡ same_key last.key key
has-last_key key earlier has last none = ap (λ own. same_key own key) (last-key earlier has last none)

-- a key of no member is no member's
pub no-member : (kept key : CountKey) → kept.member ≡ None → IsSome key.member → false ≡ same_key kept key
no-member kept key none some = rw none (by (same_group kept.group key.group) key.member some)
  where
    by : (group : Bool) (member : Option ℕ) → IsSome member → false ≡ (group && option_eq nat_eq None member)
    by true None some = cc
    by true (Some id) some = refl
    by false member some = refl

and-swap : (a b : Bool) → (a && b) ≡ (b && a)
and-swap true true = refl
and-swap true false = refl
and-swap false true = refl
and-swap false false = refl

number-none : (id : ℕ) → id < 2 ^ 32 → false ≡ (2 ^ 32 == id)
number-none id small = grind (arith, nat_tests)

option_eq-number : (member : Option ℕ) (id : ℕ) → id < 2 ^ 32 → option_eq nat_eq member (Some id) ≡ (number_of member == id)
option_eq-number None id small = number-none id small
option_eq-number (Some number) id small = refl

-- groups are the same exactly if their numbers are
pub same_group-numbers : (group other : Endpoint) → group.address < 2 ^ 32 → other.address < 2 ^ 32
    → (group_number group == group_number other) ≡ same_group group other
same_group-numbers group other small fits =
    same_from_decides (group_number group == group_number other) (same_group group other)
    (Decides-like (group_number group == group_number other) (λ same. (omega (arith, same, small, fits), omega (arith, same, small, fits)))
    (λ same. omega (arith, same.0, same.1)) (Decides-eqb (group_number group) (group_number other)))
    (Decides-and (group.address == other.address) (group.port == other.port) (Decides-eqb group.address other.address) (Decides-eqb group.port other.port))

-- keys are the same exactly if their numbers are
pub same_key-numbers : (key : CountKey) (group : Endpoint) (id : ℕ) → key.group.address < 2 ^ 32 → group.address < 2 ^ 32 → id < 2 ^ 32
    → ((number_of key.member == id) && (group_number key.group == group_number group)) ≡ same_key key (member_key group id)
same_key-numbers key group id small fits below =
    and-swap (number_of key.member == id) (group_number key.group == group_number group)
    ∙ ap₂ (λ a b. a && b) (same_group-numbers key.group group small fits) (sym (option_eq-number key.member id below))

not-true : (b : Bool) → (b ≡ true → ⊥) → b ≡ false
not-true true never = absurd (never refl)
not-true false never = refl

pub is-other : (number id : ℕ) → (number ≡ id → ⊥) → (number == id) ≡ false
is-other number id never = not-true (number == id) (λ same. never ((Decides-eqb number id).0 same))

pub sent-other : (packed ended : ℕ) → (packed ≡ ended → ⊥) → is_sent packed ended ≡ true
sent-other packed ended never = ap (λ b. not b) (is-other packed ended never)

pub sent-none : (packed ended none : ℕ) → packed ≡ none → ended ≡ none → is_sent packed ended ≡ false
sent-none packed ended none is same = ap (λ b. not b) ((Decides-eqb packed ended).1 (is ∙ sym same))

pub from-not : (b : Bool) → not b ≡ false → b ≡ true
from-not true is = refl
from-not false is = cc

pub from-other : (b : Bool) → not b ≡ true → false ≡ b
from-other true is = cc
from-other false is = refl

-- a sum that is not below what was added to did not wrap, and one that wrapped is taken back
pub not-wrapped : (packed one : ℕ) → packed < 2 ^ 128 → one < 2 ^ 128 → packed ≤ (packed + one) % 2 ^ 128
    → ((packed + one) % 2 ^ 128 ≡ packed + one) × (packed + one < 2 ^ 128)
not-wrapped packed one fits below least = (omega (arith, fits, below, least), omega (arith, fits, below, least))

pub taken-back : (packed one : ℕ) → packed < 2 ^ 128 → one < 2 ^ 128 → ((packed + one) % 2 ^ 128 + 2 ^ 128 - one) % 2 ^ 128 ≡ packed
taken-back packed one fits below = omega (arith, fits, below)

has-more : (has_counts : Bool) (packed bytes : ℕ) → IsPacked packed → packed + packed_one bytes < 2 ^ 128 → has_run has_counts (packed + packed_one bytes) ≡ true
has-more true packed bytes is fits = refl
has-more false packed bytes is fits =
    let more = packed-more packed bytes is fits in
    ap (λ b. not b) (is-other (packets (packed + packed_one bytes)) 0 (λ zero. omega (arith, zero, more.0)))

fits-one : (bytes : ℕ) → bytes < 2 ^ 64 → plus no_counts (delivered_one bytes) ≡ delivered_one bytes
fits-one bytes fits = ap (λ n. delivered_one n) (capped-below (0 + bytes) (omega (arith, fits)) ∙ omega arith)

-- a packet that is packed is counted
pub delivered-log : (earlier : List Run) (has_counts : Bool) (last : Run) (packed ended room bytes : ℕ) (key : CountKey)
    → (has_run has_counts packed ≡ false → (length earlier ≡ 0) × (packed ≡ 2 ^ 65 - 1)) → (has_counts ≡ false → last.counts ≡ no_counts)
    → IsPacked packed → ended ≤ packed → last.key ≡ key → packed + packed_one bytes < 2 ^ 128
    → record {
      entries = runs earlier (has_run has_counts (packed + packed_one bytes)) (whole last (packed + packed_one bytes));
      room = room;
      sent = is_sent (packed + packed_one bytes) ended;
      kept = last.key;
    }
    ≡ with_counts key (delivered_one bytes) true (record {
      entries = runs earlier (has_run has_counts packed) (whole last packed);
      room = room;
      sent = is_sent packed ended;
      kept = last.key;
    })
delivered-log earlier has_counts last packed ended room bytes key none empty is before own fits =
    rw (has-more has_counts packed bytes is fits)
    (let make : List Run → Bool → CountKey → Log = λ entries sent kept. record { entries = entries; room = room; sent = sent; kept = kept } in
    ap₂ (λ (f : CountKey → Log) kept. f kept)
    (ap₂ make
    (run-again key (delivered_one bytes) earlier has_counts last packed (plus last.counts (unpacked (packed + packed_one bytes))) none empty own
    (whole-more last.counts packed bytes is fits) (fits-one bytes (omega (arith, fits))))
    (sent-other (packed + packed_one bytes) ended (λ same. omega (arith, same, before))))
    own)

failed : (earlier : List Run) (last : Run)
    → earlier ++ record last { counts = plus last.counts failed_one } ∷ [] ≡ last_failed (earlier ++ last ∷ [])
failed [] last = refl
failed (first ∷ []) last = refl
failed (first ∷ (next ∷ rest)) last = ap (λ runs. first ∷ runs) (failed (next ∷ rest) last)

pub failed-log : (earlier : List Run) (has : Bool) (last : Run) (room : ℕ) (sent : Bool) (kept : CountKey) (sum : Counts) → sent ≡ true → (has ≡ false → sent ≡ false)
    → sum ≡ plus last.counts failed_one
    → record { entries = earlier ++ record last { counts = sum } ∷ []; room = room; sent = false; kept = kept }
    ≡ marked_failed (record { entries = runs earlier has last; room = room; sent = sent; kept = kept })
failed-log earlier true last room true kept sum there none is =
    rw is (ap (λ (entries : List Run). record { entries = entries; room = room; sent = false; kept = kept }) (failed earlier last))
failed-log earlier false last room true kept sum there none is = let nothing = none refl in cc
failed-log earlier has last room false kept sum there none is = cc

earlier : (runs : List Run) (last : Run) → runs ≡ earlier_runs (runs ++ last ∷ [])
earlier [] last = refl
earlier (first ∷ []) last = refl
earlier (first ∷ (next ∷ rest)) last = ap (λ runs. first ∷ runs) (earlier (next ∷ rest) last)

pub earlier-runs : (before : List Run) (has_last : Bool) (last : Run) → (has_last ≡ false → length before ≡ 0) → before ≡ earlier_runs (runs before has_last last)
earlier-runs before true last none = earlier before last
earlier-runs [] false last none = refl
earlier-runs (run ∷ before) false last none = let empty = none refl in absurd (omega (arith, empty))

last-of : (before : List Run) (last : Run) → Some last ≡ last_run (before ++ last ∷ [])
last-of [] last = refl
last-of (first ∷ []) last = refl
last-of (first ∷ (next ∷ rest)) last = last-of (next ∷ rest) last

pub last-run : (before : List Run) (has_last : Bool) (last : Run) → has_last ≡ true → Some last ≡ last_run (runs before has_last last)
last-run before true last there = last-of before last
last-run before false last there = cc

pub last-is : (before : List Run) (has_last : Bool) (last run : Run) → (has_last ≡ false → length before ≡ 0) → last_run (runs before has_last last) ≡ Some run → last ≡ run
last-is before true last run none is = let one : Some last ≡ Some run = last-of before last ∙ is in cc
last-is [] false last run none is = cc
last-is (first ∷ before) false last run none is = let empty = none refl in absurd (omega (arith, empty))

-- the runs before the last one, and the last one, are all
pub all-runs : (runs : List Run) (last : Run) → Some last ≡ last_run runs → earlier_runs runs ++ last ∷ [] ≡ runs
all-runs [] last there = cc
all-runs (run ∷ []) last there = let one : last ≡ run = cc in ap (λ last. last ∷ []) one
all-runs (first ∷ (next ∷ rest)) last there = ap (λ runs. first ∷ runs) (all-runs (next ∷ rest) last there)

pub no-runs : (runs : List Run) → None ≡ last_run runs → earlier_runs runs ≡ runs
no-runs [] none = refl
no-runs (run ∷ []) none = cc
no-runs (first ∷ (next ∷ rest)) none = ap (λ runs. first ∷ runs) (no-runs (next ∷ rest) none)
