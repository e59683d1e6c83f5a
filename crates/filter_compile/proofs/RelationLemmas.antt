-- Relations: their guards, and the comparison of their sides.
use Rattle.std.proofs.Common.{◌≡◌, ◌∙◌, ◌+◌, ◌≤◌, Bool, List, None, Option, Some, ap, arith, false, refl, subst, sym, ℕ}
use Rattle.bpf_insn.specs.declared.instruction.Insn.TheVariants.{LoadXLength}
use Rattle.filter_emit.specs.Checks.{Checks}
use Rattle.filter_emit.specs.Fixups.{IsAppended, LabelValue}
use Rattle.filter_emit.specs.Pieces.{Writes}
use Rattle.filter_emit.specs.Guards.{Guards}
use Rattle.filter_emit.specs.body.Straight.{Extends}
use Rattle.filter_emit.proofs.GuardLemmas.{Extends-pushed, Extends-writes}
use Rattle.filter_emit.proofs.WritesLemmas.{Writes-means, Writes-weight}
use Rattle.filter_tree.specs.declared.expression.Relation.{Relation}
use Rattle.filter_tree.specs.declared.sides.Accesses.{Accesses}
use Rattle.filter_tree.specs.declared.truth.Truth.{Truth}
use Rattle.filter_tree.specs.declared.truth.Truth.TheVariants.{No}
use Rattle.filter_tree.specs.Arithmetic.{value_of_arith}
use Rattle.filter_tree.specs.Measure.{weight_of_arith, weight_where}
use Rattle.filter_tree.specs.Outcome.{◌and_then◌, tested, where_so}
use Rattle.filter_tree.specs.Primitive.{is_first_fragment, is_ip, is_protocol}
use Rattle.filter_tree.specs.Tree.{ArithTree, relation}
use Rattle.filter_tree.specs.Truth.{accesses_of_both, any_accessor, any_transport, compared, guards, holds, truth_of, used_by}
use Rattle.filter_facts.specs.declared.known.Known.{Known}
use Rattle.filter_facts.specs.Known.{Holds, Knows}
use Rattle.filter_compile.specs.declared.arithmetic.Simple.TheVariants.{Length}
use Rattle.filter_compile.specs.body.Arithmetic.{simple_value}
use Rattle.filter_compile.specs.body.Piece.{Compares, Computes, Pairs, Tests, compared_with}
use Rattle.filter_compile.specs.declared.sides.Passed.{Passed}
use Rattle.filter_compile.specs.body.Sides.{Adds, HoldsWhere}
use Rattle.filter_compile.specs.body.Weight.{version_weight_under, weight_of_guards_under, weight_under}
use Rattle.filter_compile.proofs.ArithmeticLemmas.{Pairs-length}
use Rattle.filter_compile.proofs.GuardLemmas.{Writes-guarded}
use Rattle.filter_compile.proofs.TestLemmas.{Compares-checks, Compares-pair, Compares-same, Tests-same, Tests-value, from_value}

-- ---- guards

-- what the guards test, with what was told of all protocols
pub Adds-told : (known : Known) (used : Accesses) (old new : Passed) (any transport : Bool) {c0 c1 : List ℕ} {n n' : LabelValue} → any ≡ any_accessor (used_by used) → transport ≡ any_transport (used_by used)
    → Adds (λ packet. where_so any (is_ip packet) and_then where_so used.tcp (is_protocol 6 packet) and_then where_so used.udp (is_protocol 17 packet) and_then where_so used.icmp (is_protocol 1 packet) and_then where_so transport (is_first_fragment packet))
    (weight_where any (version_weight_under known) + weight_where used.tcp 4 + weight_where used.udp 4 + weight_where used.icmp 4 + weight_where transport 4) c0 c1 old new n n'
    → Adds (guards (used_by used)) (weight_of_guards_under known (used_by used)) c0 c1 old new n n'
Adds-told known used old new any transport {c0 = c0} {c1 = c1} {n = n} {n' = n'} any_is transport_is h =
    subst (λ (t : Bool). Adds (λ packet. where_so (any_accessor (used_by used)) (is_ip packet) and_then where_so used.tcp (is_protocol 6 packet) and_then where_so used.udp (is_protocol 17 packet) and_then where_so used.icmp (is_protocol 1 packet) and_then where_so t (is_first_fragment packet))
    (weight_where (any_accessor (used_by used)) (version_weight_under known) + weight_where used.tcp 4 + weight_where used.udp 4 + weight_where used.icmp 4 + weight_where t 4) c0 c1 old new n n') transport_is
    (subst (λ (b : Bool). Adds (λ packet. where_so b (is_ip packet) and_then where_so used.tcp (is_protocol 6 packet) and_then where_so used.udp (is_protocol 17 packet) and_then where_so used.icmp (is_protocol 1 packet) and_then where_so transport (is_first_fragment packet))
    (weight_where b (version_weight_under known) + weight_where used.tcp 4 + weight_where used.udp 4 + weight_where used.icmp 4 + weight_where transport 4) c0 c1 old new n n') any_is h)

-- ---- comparisons

module _ (relator : Relation) (right : ArithTree) (held : Bool) {c0 : List ℕ} {y y' n n' : LabelValue} where
  pub Writes-compared_number : (k : ℕ) {c1 : List ℕ} → ((packet : List ℕ) → value_of_arith right packet ≡ Some k) → Writes (Checks (λ a. a) (λ a x. holds relator a k)) 3 c0 c1 y y' n n'
      → Writes (Compares (compared_with relator (value_of_arith right)) held held) (weight_of_arith right + 6) c0 c1 y y' n n'
  Writes-compared_number k same writes = Writes-weight (weight_of_arith right + 6) (omega arith)
      (Writes-means (λ at_yes at_no words h. Compares-same (λ packet a. tested (holds relator a) (Some k)) (compared_with relator (value_of_arith right)) held held at_yes at_no words (λ packet a. ap (tested (holds relator a)) (sym (same packet)))
      (Compares-checks (λ a x. holds relator a k) (λ a. holds relator a k) held at_yes at_no words (λ a x. refl) h)) writes)

  pub Writes-compared_length : {c1 c2 : List ℕ} → ((packet : List ℕ) → value_of_arith right packet ≡ simple_value Length packet) → IsAppended LoadXLength c0 c1 → Writes (Checks (λ a. a) (λ a x. holds relator a x)) 3 c1 c2 y y' n n'
      → Writes (Compares (compared_with relator (value_of_arith right)) held false) (weight_of_arith right + 6) c0 c2 y y' n n'
  Writes-compared_length same pushed writes = Writes-weight (weight_of_arith right + 6) (omega arith)
      (Extends-writes (λ at_yes at_no mid words one two. Compares-same (λ packet a. tested (holds relator a) (simple_value Length packet)) (compared_with relator (value_of_arith right)) held false at_yes at_no words (λ packet a. ap (tested (holds relator a)) (sym (same packet)))
      (Compares-pair (simple_value Length) (λ a x. holds relator a x) held at_yes at_no mid words (Pairs-length held 0 mid words one) two)) (Extends-pushed (λ len pc. refl) pushed) writes)

  pub Writes-compared_pair : {c1 c2 : List ℕ} → Extends (Pairs (value_of_arith right) held 0) (weight_of_arith right + 3) c0 c1 → Writes (Checks (λ a. a) (λ a x. holds relator a x)) 3 c1 c2 y y' n n'
      → Writes (Compares (compared_with relator (value_of_arith right)) held false) (weight_of_arith right + 6) c0 c2 y y' n n'
  Writes-compared_pair pairs writes = Writes-weight (weight_of_arith right + 6) (omega arith)
      (Extends-writes (λ at_yes at_no mid words one two. Compares-pair (value_of_arith right) (λ a x. holds relator a x) held at_yes at_no mid words one two) pairs writes)

compared_same : (relator : Relation) (l r : Option ℕ) → from_value (λ a. tested (holds relator a) r) l ≡ compared relator l r
compared_same relator None r = refl
compared_same relator (Some a) None = refl
compared_same relator (Some a) (Some b) = refl

-- ---- whole relations

-- what the two sides come to behind the guards
abbrev pub sides : Relation → ArithTree → ArithTree → List ℕ → Truth
sides relator left right packet = from_value (λ a. tested (holds relator a) (value_of_arith right packet)) (value_of_arith left packet)

module _ (relator : Relation) (left right : ArithTree) (used : Accesses) (same_guards : (packet : List ℕ) → guards (used_by used) packet ≡ guards (accesses_of_both left right) packet)
    (known : Known) (same_weight : weight_of_guards_under known (used_by used) ≡ weight_of_guards_under known (accesses_of_both left right)) where
  pub excluded_relation : (packet : List ℕ) → guards (used_by used) packet ≡ No → truth_of (relation left relator right) packet ≡ No
  excluded_relation packet is = ap (λ t. t and_then compared relator (value_of_arith left packet) (value_of_arith right packet)) (sym (same_guards packet) ∙ is)

  pub relation_weight : 1 ≤ weight_under known (relation left relator right)
  relation_weight = omega arith

  module _ (on last if_no : Known) (missed : Option Known) (held between after : Bool) {c0 c1 c2 c3 : List ℕ} {y y' n n' n'' : LabelValue} (knows : (packet : List ℕ) (a x : ℕ) → Holds on packet a x → Knows held packet x)
      (tells : (packet : List ℕ) (a a' x x' : ℕ) → Holds on packet a x → Knows after packet x' → Holds last packet a' x') (of_self : (packet : List ℕ) (a x : ℕ) → HoldsWhere missed packet a x → Holds if_no packet a x) (of_no : (packet : List ℕ) (a x : ℕ) → Holds last packet a x → Holds if_no packet a x)
      (guarded : Guards (Tests (Holds known) (Holds on) (HoldsWhere missed) (guards (used_by used))) (weight_of_guards_under known (used_by used)) c0 c1 n n')
      (computes : Extends (Computes (λ packet a. value_of_arith left packet) held between 0) (weight_of_arith left) c1 c2)
      (compares : Writes (Compares (compared_with relator (value_of_arith right)) between after) (weight_of_arith right + 6) c2 c3 y y' n' n'') where
    pub Writes-relation : Writes (Tests (Holds known) (Holds last) (Holds if_no) (truth_of (relation left relator right))) (weight_under known (relation left relator right)) c0 c3 y y' n n''
    Writes-relation = Writes-means
        (λ at_yes at_no words h. Tests-same (Holds known) (Holds last) (Holds if_no) (λ packet. guards (used_by used) packet and_then sides relator left right packet) (truth_of (relation left relator right)) at_yes at_no words
        (λ packet a x ok g. ap (λ t. t and_then sides relator left right packet) (same_guards packet) ∙ ap (λ t. guards (accesses_of_both left right) packet and_then t) (compared_same relator (value_of_arith left packet) (value_of_arith right packet))) h)
        (Writes-guarded known on last last if_no missed (guards (used_by used)) (sides relator left right) (weight_under known (relation left relator right)) (let e = same_weight in omega arith) of_self of_no guarded
        (Extends-writes (λ at_yes at_no mid words one two. Tests-value (Holds on) held between after (value_of_arith left) (compared_with relator (value_of_arith right)) (Holds last) at_yes at_no mid words knows tells one two) computes compares))
