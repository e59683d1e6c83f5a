-- Guards: a test that is left out, and one that falls through where it is true.
use Rattle.std.proofs.Common.{◌≡◌, ◌∙◌, ◌+◌, ◌≤◌, Bool, List, None, Option, Some, arith, false, refl, subst, sym, true, ℕ}
use Rattle.std.specs.Prelude.{◌≢◌, ◌&&◌}
use Rattle.filter_emit.specs.Fixups.{LabelValue}
use Rattle.filter_emit.specs.Pieces.{Meaning, Writes}
use Rattle.filter_emit.specs.Guards.{Guards}
use Rattle.filter_emit.proofs.GuardLemmas.{Guards-guards, Guards-means, Guards-none, Guards-weight, Guards-writes}
use Rattle.filter_emit.proofs.WritesLemmas.{Writes-means, Writes-not, Writes-weight}
use Rattle.ipv4_fields.specs.declared.header.Field.TheVariants.{Protocol}
use Rattle.ipv4_fields.specs.Field.{field_of}
use Rattle.filter_tree.specs.declared.primitive.Transport.{Transport}
use Rattle.filter_tree.specs.declared.truth.Truth.{Truth}
use Rattle.filter_tree.specs.declared.truth.Truth.TheVariants.{No, Yes}
use Rattle.filter_tree.specs.Outcome.{◌and_then◌, tested, where_so}
use Rattle.filter_tree.specs.Primitive.{has_ports, is_first_fragment, is_ip}
use Rattle.filter_facts.specs.declared.known.Known.{Known}
use Rattle.filter_facts.specs.declared.load.Loaded.{Loaded}
use Rattle.filter_facts.specs.Known.{Holds, IsInA}
use Rattle.filter_facts.specs.Told.{first_fragment_of, transport_of}
use Rattle.filter_facts.proofs.FactLemmas.{first_fragment_yes, ip_by_fragment, ip_yes, transport_yes}
use Rattle.filter_compile.specs.body.Piece.{Decides, Tests}
use Rattle.filter_compile.specs.declared.sides.Passed.{Passed}
use Rattle.filter_compile.specs.declared.sides.Sides.{Sides}
use Rattle.filter_compile.specs.body.Sides.{Adds, BranchesAlways, HoldsWhere}
use Rattle.filter_compile.specs.body.Weight.{is_yes, leads_to_ports}
use Rattle.filter_compile.proofs.TestLemmas.{Tests-and, Tests-decided, Tests-no, Tests-none, Tests-yes}

pub yes_where : (used : Bool) (truth : Truth) → truth ≡ Yes → where_so used truth ≡ Yes
yes_where true truth is = is
yes_where false truth is = refl

pub unused : (used : Bool) (truth : Truth) → used ≡ false → where_so used truth ≡ Yes
unused true truth is = absurd cc
unused false truth is = refl

-- ---- what is known

none_told : (told : Option Bool) → told ≢ Some true → told ≢ Some false → told ≡ None
none_told None not_yes not_no = refl
none_told (Some true) not_yes not_no = absurd (not_yes refl)
none_told (Some false) not_yes not_no = absurd (not_no refl)

pub unknown : (told other : Option Bool) → told ≡ other → told ≢ Some true → other ≢ Some false → other ≡ None
unknown told other same not_yes not_no = none_told other (λ is. not_yes (same ∙ is)) not_no

led_both : (first : Bool) (told : Option Bool) → (first && is_yes told) ≡ true → (first ≡ true) × (told ≡ Some true)
led_both true (Some true) is = (refl, refl)
led_both true (Some false) is = cc
led_both true None is = cc
led_both false told is = cc

-- what comes before ports is true where it is known to be
pub led_truth : (known : Known) (transport : Transport) → leads_to_ports known transport ≡ true → (packet : List ℕ) (a x : ℕ) → Holds known packet a x
    → (is_ip packet and_then tested (has_ports transport) (field_of Protocol packet) and_then is_first_fragment packet) ≡ Yes
led_truth known transport led packet a x h =
    let told = led_both (first_fragment_of known) (transport_of known transport) led in
    rw (ip_yes known packet a x h (ip_by_fragment known told.0), transport_yes known packet a x h transport told.1, first_fragment_yes known packet a x h told.0) refl

pub leads : (known : Known) (transport : Transport) → first_fragment_of known ≡ true → transport_of known transport ≡ Some true → leads_to_ports known transport ≡ true
leads known transport first told = rw (first, told) refl

-- nothing is written
pub Guards-left_out : (known on : Known) (if_no : Option Known) (truth : List ℕ → Truth) (weight : ℕ) (code : List ℕ) (n : LabelValue) → on ≡ known → ((packet : List ℕ) (a x : ℕ) → Holds known packet a x → truth packet ≡ Yes)
    → Guards (Tests (Holds known) (Holds on) (HoldsWhere if_no) truth) weight code code n n
Guards-left_out known on if_no truth weight code n same if_yes = Guards-weight weight (omega arith)
    (Guards-none code n (λ at_no words. Tests-none (Holds known) (Holds on) (HoldsWhere if_no) truth at_no words (λ packet a x h. subst (λ k. Holds k packet a x) (sym same) h) if_yes))

-- a guard in front of a guard
pub Guards-both : (known on on' last : Known) (one two if_no : Option Known) (first second : List ℕ → Truth) {v w : ℕ} {c0 c1 c2 : List ℕ} {n n' n'' : LabelValue} → last ≡ on' → ((packet : List ℕ) (a x : ℕ) → HoldsWhere one packet a x → HoldsWhere if_no packet a x)
    → ((packet : List ℕ) (a x : ℕ) → HoldsWhere two packet a x → HoldsWhere if_no packet a x) → Guards (Tests (Holds known) (Holds on) (HoldsWhere one) first) v c0 c1 n n' → Guards (Tests (Holds on) (Holds on') (HoldsWhere two) second) w c1 c2 n' n''
    → Guards (Tests (Holds known) (Holds last) (HoldsWhere if_no) (λ packet. first packet and_then second packet)) (v + w) c0 c2 n n''
Guards-both known on on' last one two if_no first second {v = v} {w = w} {c0 = c0} {c2 = c2} {n = n} {n'' = n''} same of_one of_two guards guards' =
    subst (λ k. Guards (Tests (Holds known) (Holds k) (HoldsWhere if_no) (λ packet. first packet and_then second packet)) (v + w) c0 c2 n n'') (sym same)
    (Guards-guards (λ at_yes at_no mid words h k. Tests-and (Holds known) (Holds on) (Holds on') (HoldsWhere one) (HoldsWhere two) (HoldsWhere if_no) first second of_one of_two at_yes at_no mid words k h) guards guards')

-- ---- guards one behind the other

pub Adds-none : (passed : Passed) (truth : List ℕ → Truth) (weight : ℕ) (code : List ℕ) (n : LabelValue) → ((packet : List ℕ) (a x : ℕ) → Holds passed.on packet a x → truth packet ≡ Yes) → Adds truth weight code code passed passed n n
Adds-none passed truth weight code n if_yes = record { guards = Guards-left_out passed.on passed.on passed.no truth weight code n refl if_yes; missed = λ packet a x m. m }

-- a test, and what it tells where A holds what the test leaves there
pub Adds-asked : (old new : Passed) (asked on if_no : Known) (given after : Option Loaded) (truth : List ℕ → Truth) (weight : ℕ) {c0 c1 : List ℕ} {n n' : LabelValue} → new.on ≡ on → ((packet : List ℕ) (a x : ℕ) → HoldsWhere old.no packet a x → HoldsWhere new.no packet a x)
    → ((packet : List ℕ) (a x : ℕ) → Holds if_no packet a x → HoldsWhere new.no packet a x) → ((packet : List ℕ) (a x : ℕ) → Holds old.on packet a x → IsInA given packet a)
    → ((packet : List ℕ) (a a' x : ℕ) → Holds old.on packet a x → IsInA after packet a' → Holds asked packet a' x)
    → ((packet : List ℕ) (a x : ℕ) → Holds asked packet a x → truth packet ≡ Yes → Holds on packet a x) → ((packet : List ℕ) (a x : ℕ) → Holds asked packet a x → truth packet ≡ No → Holds if_no packet a x)
    → Guards (Decides false given after truth) weight c0 c1 n n' → Adds truth weight c0 c1 old new n n'
Adds-asked old new asked on if_no given after truth weight same of_self of_no in_a left on_yes on_no guards = record {
  guards = Guards-means
      (λ at_yes at_no words h. Tests-decided false given after (Holds old.on) (Holds new.on) (HoldsWhere new.no) truth at_yes at_no words (λ packet a x g. tt) in_a
      (λ packet a a' x g is yes. subst (λ k. Holds k packet a' x) (sym same) (on_yes packet a' x (left packet a a' x g is) yes)) (λ packet a a' x g is no. of_no packet a' x (on_no packet a' x (left packet a a' x g is) no)) h) guards;
  missed = of_self;
}

-- one guard behind another
pub Adds-both : {first second : List ℕ → Truth} {v w : ℕ} {c0 c1 c2 : List ℕ} {a b c : Passed} {n n' n'' : LabelValue} → Adds first v c0 c1 a b n n' → Adds second w c1 c2 b c n' n'' → Adds (λ packet. first packet and_then second packet) (v + w) c0 c2 a c n n''
Adds-both {first = first} {second = second} {a = a} {b = b} {c = c} one two = record {
  guards = Guards-both a.on b.on c.on c.on b.no c.no c.no first second refl two.missed (λ packet a x m. m) one.guards two.guards;
  missed = λ packet a x m. two.missed packet a x (one.missed packet a x m);
}

pub Adds-weight : {truth : List ℕ → Truth} {v : ℕ} {c0 c1 : List ℕ} {a b : Passed} {n n' : LabelValue} (w : ℕ) → v ≤ w → Adds truth v c0 c1 a b n n' → Adds truth w c0 c1 a b n n'
Adds-weight w more adds = record { guards = Guards-weight w more adds.guards; missed = adds.missed }

-- the guards behind what is known, with which they begin
pub Guards-added : (known : Known) (truth : List ℕ → Truth) (weight : Known → ℕ) {c0 c1 : List ℕ} (old new : Passed) {n n' : LabelValue} → old.on ≡ known → Adds truth (weight old.on) c0 c1 old new n n'
    → Guards (Tests (Holds known) (Holds new.on) (HoldsWhere new.no) truth) (weight known) c0 c1 n n'
Guards-added known truth weight {c0 = c0} {c1 = c1} old new {n = n} {n' = n'} same adds = subst (λ k. Guards (Tests (Holds k) (Holds new.on) (HoldsWhere new.no) truth) (weight k) c0 c1 n n') same adds.guards

-- ---- pieces

-- what is known to be true goes there at once
pub Writes-yes : (known : Known) (sides : Sides) (truth : List ℕ → Truth) (weight : ℕ) {c0 c1 : List ℕ} {y y' : LabelValue} (n : LabelValue) → 1 ≤ weight → ((packet : List ℕ) (a x : ℕ) → Holds known packet a x → truth packet ≡ Yes)
    → BranchesAlways known sides c0 c1 y y' → Writes (Tests (Holds known) (Holds sides.yes) (Holds sides.no) truth) weight c0 c1 y y' n n
Writes-yes known sides truth weight n few if_yes branches_always = Writes-weight weight few
    (Writes-means (λ at_yes at_no words h. Tests-yes (Holds known) (Holds sides.yes) (Holds sides.no) truth at_yes at_no words (λ packet a x g. subst (λ k. Holds k packet a x) (sym branches_always.yes) g) if_yes h) (branches_always.writes n))

pub Writes-no : (known : Known) (sides : Sides) (truth : List ℕ → Truth) (weight : ℕ) {c0 c1 : List ℕ} {n n' : LabelValue} (y : LabelValue) → 1 ≤ weight → ((packet : List ℕ) (a x : ℕ) → Holds known packet a x → truth packet ≡ No)
    → BranchesAlways known sides c0 c1 n n' → Writes (Tests (Holds known) (Holds sides.yes) (Holds sides.no) truth) weight c0 c1 y y n n'
Writes-no known sides truth weight y few is_no branches_always = Writes-weight weight few
    (Writes-not {other = Tests (Holds known) (Holds sides.yes) (Holds sides.no) truth}
    (λ at_yes at_no words h. Tests-no (Holds known) (Holds sides.yes) (Holds sides.no) truth at_yes at_no words (λ packet a x g. subst (λ k. Holds k packet a x) (sym branches_always.no) g) is_no h) (branches_always.writes y))

-- a decision, and what it tells where A holds what the decision leaves there
pub Writes-decided : (known asked if_yes if_no : Known) (given after : Option Loaded) (truth : List ℕ → Truth) {weight : ℕ} {c0 c1 : List ℕ} {y y' n n' : LabelValue} → ((packet : List ℕ) (a x : ℕ) → Holds known packet a x → IsInA given packet a)
    → ((packet : List ℕ) (a a' x : ℕ) → Holds known packet a x → IsInA after packet a' → Holds asked packet a' x)
    → ((packet : List ℕ) (a x : ℕ) → Holds asked packet a x → truth packet ≡ Yes → Holds if_yes packet a x) → ((packet : List ℕ) (a x : ℕ) → Holds asked packet a x → truth packet ≡ No → Holds if_no packet a x)
    → Writes (Decides false given after truth) weight c0 c1 y y' n n' → Writes (Tests (Holds known) (Holds if_yes) (Holds if_no) truth) weight c0 c1 y y' n n'
Writes-decided known asked if_yes if_no given after truth in_a left on_yes on_no writes = Writes-means
    (λ at_yes at_no words h. Tests-decided false given after (Holds known) (Holds if_yes) (Holds if_no) truth at_yes at_no words (λ packet a x g. tt) in_a (λ packet a a' x g is yes. on_yes packet a' x (left packet a a' x g is) yes)
    (λ packet a a' x g is no. on_no packet a' x (left packet a a' x g is) no) h) writes

-- a guard in front of a piece
pub Writes-guarded : (known on if_yes second_no if_no : Known) (missed : Option Known) (first second : List ℕ → Truth) (weight : ℕ) {v w : ℕ} {c0 c1 c2 : List ℕ} {y y' n n' n'' : LabelValue} → v + w ≤ weight
    → ((packet : List ℕ) (a x : ℕ) → HoldsWhere missed packet a x → Holds if_no packet a x) → ((packet : List ℕ) (a x : ℕ) → Holds second_no packet a x → Holds if_no packet a x)
    → Guards (Tests (Holds known) (Holds on) (HoldsWhere missed) first) v c0 c1 n n' → Writes (Tests (Holds on) (Holds if_yes) (Holds second_no) second) w c1 c2 y y' n' n''
    → Writes (Tests (Holds known) (Holds if_yes) (Holds if_no) (λ packet. first packet and_then second packet)) weight c0 c2 y y' n n''
Writes-guarded known on if_yes second_no if_no missed first second weight few of_self of_no guards writes = Writes-weight weight few
    (Guards-writes (λ at_yes at_no mid words h k. Tests-and (Holds known) (Holds on) (Holds if_yes) (HoldsWhere missed) (Holds second_no) (Holds if_no) first second of_self of_no at_yes at_no mid words k h) guards writes)

-- a piece behind one that goes to yes, or falls through where it does not hold
pub Guards-writes_no : {one two both : Meaning} {v w : ℕ} {c0 c1 c2 : List ℕ} {y y' y'' n n' : LabelValue} → ((at_yes at_no mid words : List ℕ) → one at_yes mid words → two at_yes at_no mid → both at_yes at_no words)
    → Guards (λ at_no at_yes words. one at_yes at_no words) v c0 c1 y y' → Writes two w c1 c2 y' y'' n n' → Writes both (v + w) c0 c2 y y'' n n'
Guards-writes_no {one = one} {two = two} {both = both} or guards writes =
    let turned : Writes (λ at_no at_yes words. both at_yes at_no words) _ _ _ _ _ _ _ = Guards-writes {one = λ at_no at_yes words. one at_yes at_no words} {two = λ at_no at_yes words. two at_yes at_no words} (λ at_no at_yes mid words h k. or at_yes at_no mid words h k)
    guards (Writes-not (λ at_no at_yes words m. m) writes) in
    Writes-not (λ at_yes at_no words m. m) turned
