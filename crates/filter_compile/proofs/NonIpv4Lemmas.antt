-- Where it is settled what an expression says of the packets that fail a guard: its truth on them, what is saved where the
-- guard is known to hold, and its code behind the guard.
use Rattle.std.proofs.Common.{◌≡◌, ◌∙◌, ◌+◌, ◌≤◌, Bool, List, None, Option, Some, ap, arith, false, inl, inr, refl, sym, true, ℕ, ⊎_elim}
use Rattle.std.specs.Prelude.{◌⊎◌, ◌&&◌, if◌then◌else◌, not}
use Rattle.filter_emit.specs.Fixups.{LabelValue}
use Rattle.filter_emit.specs.Pieces.{Writes}
use Rattle.filter_emit.specs.Guards.{Guards}
use Rattle.filter_emit.proofs.WritesLemmas.{Writes-means, Writes-weight}
use Rattle.ipv4_fields.specs.declared.header.Field.TheVariants.{Protocol}
use Rattle.ipv4_fields.specs.Field.{field_of}
use Rattle.filter_tree.specs.declared.primitive.Primitive.{Primitive}
use Rattle.filter_tree.specs.declared.primitive.Primitive.TheVariants.{AtLeast, AtMost, Host, Ip, Net, Port, PortRange, Proto}
use Rattle.filter_tree.specs.declared.primitive.Transport.{Transport}
use Rattle.filter_tree.specs.declared.primitive.Transport.TheVariants.{Tcp, Udp, Unnamed}
use Rattle.filter_tree.specs.declared.expression.Relation.{Relation}
use Rattle.filter_tree.specs.declared.truth.Truth.{Truth}
use Rattle.filter_tree.specs.declared.truth.Truth.TheVariants.{Fails, No, Yes}
use Rattle.filter_tree.specs.Measure.{weight_of, weight_where}
use Rattle.filter_tree.specs.Arithmetic.{value_of_arith}
use Rattle.filter_tree.specs.Outcome.{◌and_then◌, ◌or_else◌, answer, opposite, tested, where_so}
use Rattle.filter_tree.specs.Primitive.{has_ports, is_first_fragment, is_ip}
use Rattle.filter_tree.specs.Tree.{ArithTree, Tree, conjunction, disjunction, negation, primitive, relation}
use Rattle.filter_tree.specs.Truth.{accesses_of_both, any_accessor, compared, truth_of}
use Rattle.filter_facts.specs.declared.known.Known.{Known}
use Rattle.filter_facts.specs.Known.{Holds}
use Rattle.filter_facts.specs.Told.{transport_of}
use Rattle.filter_facts.proofs.FactLemmas.{first_fragment_unknown}
use Rattle.filter_compile.specs.declared.front.Guard.{Guard}
use Rattle.filter_compile.specs.declared.front.Guard.TheVariants.{Ports, Version}
use Rattle.filter_compile.specs.body.NonIpv4.{accesses_non_ipv4, and_non_ipv4, begins_with_ip, is_ip_primitive, non_ipv4, not_non_ipv4, or_non_ipv4, primitive_non_ipv4}
use Rattle.filter_compile.specs.body.Front.{BeginsWith, IsLearned, MayAsk, guard_truth, guard_weight, has_only_ports, is_ports, is_same}
use Rattle.filter_compile.specs.body.Header.{weight_of_transport}
use Rattle.filter_compile.specs.body.Piece.{Tests}
use Rattle.filter_compile.specs.body.Sides.{HoldsWhere}
use Rattle.filter_compile.specs.body.Weight.{is_yes, ports_weight_under, version_weight, version_weight_under, weight_under}
use Rattle.filter_compile.proofs.GuardLemmas.{Guards-writes_no, Writes-guarded}
use Rattle.filter_compile.proofs.TestLemmas.{Tests-not, Tests-or, Tests-same}
use Rattle.filter_compile.proofs.WeightLemmas.{ports_few, ports_weight-asked, ports_weight-known}

-- ---- the parts that settle it

not_told : (told : Option Bool) (b : Bool) → not_non_ipv4 told ≡ Some b → (c : Bool) × (told ≡ Some c) × (not c ≡ b)
not_told None b is = cc
not_told (Some c) b is = (c, refl, cc)

-- the left part leads past the right one, or to it
and_told : (left right : Option Bool) (b : Bool) → and_non_ipv4 left right ≡ Some b → ((left ≡ Some false) × (false ≡ b)) ⊎ ((left ≡ Some true) × (right ≡ Some b))
and_told None right b is = cc
and_told (Some false) right b is = inl (refl, cc)
and_told (Some true) right b is = inr (refl, is)

or_told : (left right : Option Bool) (b : Bool) → or_non_ipv4 left right ≡ Some b → ((left ≡ Some true) × (true ≡ b)) ⊎ ((left ≡ Some false) × (right ≡ Some b))
or_told None right b is = cc
or_told (Some true) right b is = inl (refl, cc)
or_told (Some false) right b is = inr (refl, is)

any_told : (any : Bool) (b : Bool) → (if any then Some false else None) ≡ Some b → (any ≡ true) × (false ≡ b)
any_told true b is = (refl, cc)
any_told false b is = cc

opposite_answer : (b : Bool) → opposite (answer b) ≡ answer (not b)
opposite_answer true = refl
opposite_answer false = refl

-- ---- parts that are ports

same_is : (one other : Transport) → is_same one other ≡ true → one ≡ other
same_is Tcp Tcp is = refl
same_is Tcp Udp is = cc
same_is Tcp Unnamed is = cc
same_is Udp Tcp is = cc
same_is Udp Udp is = refl
same_is Udp Unnamed is = cc
same_is Unnamed Tcp is = cc
same_is Unnamed Udp is = cc
same_is Unnamed Unnamed is = refl

both_true : (one other : Bool) → (one && other) ≡ true → (one ≡ true) × (other ≡ true)
both_true true other is = (refl, is)
both_true false other is = cc

-- ---- what is said of packets that are not IPv4

-- the truth of a tree on packets that fail a guard, and that it fails where the guard does
pub record IsSaid (guard : Guard) (tree : Tree) (b : Bool) : Type 0 where
  pub no : (packet : List ℕ) → guard_truth guard packet ≡ No → truth_of tree packet ≡ answer b
  pub fails : (packet : List ℕ) → guard_truth guard packet ≡ Fails → truth_of tree packet ≡ Fails

said_version : (p : Primitive) (b : Bool) → primitive_non_ipv4 p ≡ Some b → IsSaid Version (primitive p) b
said_version Ip b is = let e : false ≡ b = cc in record { no = λ packet none. rw none (ap answer e); fails = λ packet none. none }
said_version (Proto n) b is = let e : false ≡ b = cc in record { no = λ packet none. rw none (ap answer e); fails = λ packet none. rw none refl }
said_version (Host direction address) b is = let e : false ≡ b = cc in record { no = λ packet none. rw none (ap answer e); fails = λ packet none. rw none refl }
said_version (Net direction prefix) b is = let e : false ≡ b = cc in record { no = λ packet none. rw none (ap answer e); fails = λ packet none. rw none refl }
said_version (Port transport direction n) b is = let e : false ≡ b = cc in record { no = λ packet none. rw none (ap answer e); fails = λ packet none. rw none refl }
said_version (PortRange transport direction n m) b is = let e : false ≡ b = cc in record { no = λ packet none. rw none (ap answer e); fails = λ packet none. rw none refl }
said_version (AtMost n) b is = cc
said_version (AtLeast n) b is = cc

other_ports : (transport other : Transport) (t : Truth) (packet : List ℕ) → transport ≡ other → guard_truth (Ports transport) packet ≡ t → guard_truth (Ports other) packet ≡ t
other_ports transport other t packet same is = ap (λ k. guard_truth (Ports k) packet) (sym same) ∙ is

said_ports : (transport : Transport) (p : Primitive) (b : Bool) → is_ports transport p ≡ true → primitive_non_ipv4 p ≡ Some b → IsSaid (Ports transport) (primitive p) b
said_ports transport Ip b only is = cc
said_ports transport (Proto n) b only is = cc
said_ports transport (Host direction address) b only is = cc
said_ports transport (Net direction prefix) b only is = cc
said_ports transport (Port other direction n) b only is = let e : false ≡ b = cc in record {
  no = λ packet none. let first : (is_ip packet and_then tested (has_ports other) (field_of Protocol packet) and_then is_first_fragment packet) ≡ No = other_ports transport other No packet (same_is transport other only) none in rw first (ap answer e);
  fails = λ packet none. let first : (is_ip packet and_then tested (has_ports other) (field_of Protocol packet) and_then is_first_fragment packet) ≡ Fails = other_ports transport other Fails packet (same_is transport other only) none in rw first refl;
}
said_ports transport (PortRange other direction n m) b only is = let e : false ≡ b = cc in record {
  no = λ packet none. let first : (is_ip packet and_then tested (has_ports other) (field_of Protocol packet) and_then is_first_fragment packet) ≡ No = other_ports transport other No packet (same_is transport other only) none in rw first (ap answer e);
  fails = λ packet none. let first : (is_ip packet and_then tested (has_ports other) (field_of Protocol packet) and_then is_first_fragment packet) ≡ Fails = other_ports transport other Fails packet (same_is transport other only) none in rw first refl;
}
said_ports transport (AtMost n) b only is = cc
said_ports transport (AtLeast n) b only is = cc

-- all parts of a tree are such that a guard is theirs
abbrev HasOnly : Guard → Tree → Type 0
HasOnly Version tree = Unit {0}
HasOnly (Ports transport) tree = has_only_ports transport tree ≡ true

only_both : (guard : Guard) (left right : Tree) → HasOnly guard (conjunction left right) → HasOnly guard left × HasOnly guard right
only_both Version left right only = (tt, tt)
only_both (Ports transport) left right only = both_true (has_only_ports transport left) (has_only_ports transport right) only

only_either : (guard : Guard) (left right : Tree) → HasOnly guard (disjunction left right) → HasOnly guard left × HasOnly guard right
only_either Version left right only = (tt, tt)
only_either (Ports transport) left right only = both_true (has_only_ports transport left) (has_only_ports transport right) only

only_inner : (guard : Guard) (tree : Tree) → HasOnly guard (negation tree) → HasOnly guard tree
only_inner Version tree only = tt
only_inner (Ports transport) tree only = only

said_primitive : (guard : Guard) (p : Primitive) (b : Bool) → HasOnly guard (primitive p) → primitive_non_ipv4 p ≡ Some b → IsSaid guard (primitive p) b
said_primitive Version p b only is = said_version p b is
said_primitive (Ports transport) p b only is = said_ports transport p b only is

-- the first guard of a relation
begins : (any : Bool) (first t u v w other : Truth) → any ≡ true → first ≡ other → (where_so any first and_then t and_then u and_then v and_then w) ≡ (other and_then t and_then u and_then v and_then w)
begins true first t u v w other is same = ap (λ s. s and_then t and_then u and_then v and_then w) same
begins false first t u v w other is same = absurd cc

said_relation : (guard : Guard) (left : ArithTree) (relator : Relation) (right : ArithTree) (b : Bool) → HasOnly guard (relation left relator right) → accesses_non_ipv4 (accesses_of_both left right) ≡ Some b → IsSaid guard (relation left relator right) b
said_relation Version left relator right b only is =
    let used = accesses_of_both left right in let told = any_told (any_accessor used) b is in record {
      no = λ packet none. ap (λ t. t and_then compared relator (value_of_arith left packet) (value_of_arith right packet)) (begins (any_accessor used) (is_ip packet) _ _ _ _ No told.0 none) ∙ ap answer told.1;
      fails = λ packet none. ap (λ t. t and_then compared relator (value_of_arith left packet) (value_of_arith right packet)) (begins (any_accessor used) (is_ip packet) _ _ _ _ Fails told.0 none);
    }
said_relation (Ports transport) left relator right b only is = absurd cc

said : (guard : Guard) (tree : Tree) (b : Bool) → HasOnly guard tree → non_ipv4 tree ≡ Some b → IsSaid guard tree b
said guard (primitive p) b only is = said_primitive guard p b only is
said guard (relation left relator right) b only is = said_relation guard left relator right b only is
said guard (negation tree) b only is =
    let told = not_told (non_ipv4 tree) b is in let part = said guard tree told.0 (only_inner guard tree only) told.1 in record {
      no = λ packet none. ap opposite (part.no packet none) ∙ (opposite_answer told.0 ∙ ap answer told.2);
      fails = λ packet none. ap opposite (part.fails packet none);
    }
said guard (conjunction left right) b only is =
    let parts = only_both guard left right only in
    ⊎_elim
    (λ (past : (non_ipv4 left ≡ Some false) × (false ≡ b)). let part = said guard left false parts.0 past.0 in record {
      no = λ packet none. ap (λ t. t and_then truth_of right packet) (part.no packet none) ∙ ap answer past.1;
      fails = λ packet none. ap (λ t. t and_then truth_of right packet) (part.fails packet none);
    })
    (λ (on : (non_ipv4 left ≡ Some true) × (non_ipv4 right ≡ Some b)). let part = said guard left true parts.0 on.0 in record {
      no = λ packet none. ap (λ t. t and_then truth_of right packet) (part.no packet none) ∙ (said guard right b parts.1 on.1).no packet none;
      fails = λ packet none. ap (λ t. t and_then truth_of right packet) (part.fails packet none);
    })
    (and_told (non_ipv4 left) (non_ipv4 right) b is)
said guard (disjunction left right) b only is =
    let parts = only_either guard left right only in
    ⊎_elim
    (λ (past : (non_ipv4 left ≡ Some true) × (true ≡ b)). let part = said guard left true parts.0 past.0 in record {
      no = λ packet none. ap (λ t. t or_else truth_of right packet) (part.no packet none) ∙ ap answer past.1;
      fails = λ packet none. ap (λ t. t or_else truth_of right packet) (part.fails packet none);
    })
    (λ (on : (non_ipv4 left ≡ Some false) × (non_ipv4 right ≡ Some b)). let part = said guard left false parts.0 on.0 in record {
      no = λ packet none. ap (λ t. t or_else truth_of right packet) (part.no packet none) ∙ (said guard right b parts.1 on.1).no packet none;
      fails = λ packet none. ap (λ t. t or_else truth_of right packet) (part.fails packet none);
    })
    (or_told (non_ipv4 left) (non_ipv4 right) b is)

-- ---- what is saved where the guard is known to hold

left_told : (left right : Option Bool) (b : Bool) → and_non_ipv4 left right ≡ Some b ⊎ or_non_ipv4 left right ≡ Some b → (c : Bool) × (left ≡ Some c)
left_told None right b is = ⊎_elim (λ (h : None ≡ Some b). cc) (λ (h : None ≡ Some b). cc) is
left_told (Some c) right b is = (c, refl)

-- there is room for the guard, and for what is behind it
pub record HasRoom (guard : Guard) (known : Known) (tree : Tree) : Type 0 where
  pub test : guard_weight guard known ≤ weight_under known tree
  pub rest : (on : Known) → IsLearned guard on → guard_weight guard known + weight_under on tree ≤ weight_under known tree

HasRoom-more : (guard : Guard) (known : Known) (part tree : Tree) (n : ℕ) → ((k : Known) → weight_under k tree ≡ weight_under k part + n) → HasRoom guard known part → HasRoom guard known tree
HasRoom-more guard known part tree n same h = record {
  test = let whole = same known in let test = h.test in omega arith;
  rest = λ on learned. let whole = same known in let lighter = same on in let rest = h.rest on learned in omega arith;
}

module _ (known : Known) (may_ask : MayAsk Version known) where
  unknown_version : version_weight_under known ≡ 5
  unknown_version = ap version_weight may_ask

  known_version : (on : Known) → IsLearned Version on → version_weight_under on ≡ 0
  known_version on learned = ap version_weight learned

  unknown_ports : (transport : Transport) → ports_weight_under known transport ≡ weight_of_transport transport + 9
  unknown_ports transport =
      let asked = ports_weight-asked known transport (ap (λ first. first && is_yes (transport_of known transport)) (first_fragment_unknown known may_ask)) in let v = unknown_version in omega arith

  known_ports : (on : Known) → IsLearned Version on → (transport : Transport) → ports_weight_under on transport ≤ weight_of_transport transport + 4
  known_ports on learned transport = let few = ports_few on transport in let v = known_version on learned in omega arith

  room_of_version : (p : Primitive) (b : Bool) → primitive_non_ipv4 p ≡ Some b → is_ip_primitive p ≡ false → HasRoom Version known (primitive p)
  room_of_version Ip b is other = cc
  room_of_version (Proto n) b is other = let v = unknown_version in record { test = omega arith; rest = λ on learned. let w = known_version on learned in omega arith }
  room_of_version (Host direction address) b is other = let v = unknown_version in record { test = omega arith; rest = λ on learned. let w = known_version on learned in omega arith }
  room_of_version (Net direction prefix) b is other = let v = unknown_version in record { test = omega arith; rest = λ on learned. let w = known_version on learned in omega arith }
  room_of_version (Port transport direction n) b is other = let v = unknown_ports transport in record { test = omega arith; rest = λ on learned. let w = known_ports on learned transport in omega arith }
  room_of_version (PortRange transport direction n m) b is other = let v = unknown_ports transport in record { test = omega arith; rest = λ on learned. let w = known_ports on learned transport in omega arith }
  room_of_version (AtMost n) b is other = cc
  room_of_version (AtLeast n) b is other = cc

  guards_of_version : (any : Bool) → any ≡ true → (v : ℕ) → weight_where any v ≡ v
  guards_of_version true is v = refl
  guards_of_version false is v = absurd cc

  room_for_version : (tree : Tree) (b : Bool) → non_ipv4 tree ≡ Some b → begins_with_ip tree ≡ false → HasRoom Version known tree
  room_for_version (primitive p) b is other = room_of_version p b is other
  room_for_version (relation left relator right) b is other =
      let any = any_accessor (accesses_of_both left right) in let told = (any_told any b is).0 in let v = unknown_version in let whole = guards_of_version any told (version_weight_under known) in record {
        test = omega arith;
        rest = λ on learned. let w = known_version on learned in let none = guards_of_version any told (version_weight_under on) in omega arith;
      }
  room_for_version (negation tree) b is other = let told = not_told (non_ipv4 tree) b is in HasRoom-more Version known tree (negation tree) 0 (λ k. omega arith) (room_for_version tree told.0 told.1 other)
  room_for_version (conjunction left right) b is other =
      let told = left_told (non_ipv4 left) (non_ipv4 right) b (inl is) in HasRoom-more Version known left (conjunction left right) (weight_of right) (λ k. refl) (room_for_version left told.0 told.1 other)
  room_for_version (disjunction left right) b is other =
      let told = left_told (non_ipv4 left) (non_ipv4 right) b (inr is) in HasRoom-more Version known left (disjunction left right) (weight_of right) (λ k. refl) (room_for_version left told.0 told.1 other)

module _ (transport : Transport) (known : Known) where
  known_same : (other : Transport) → transport ≡ other → (on : Known) → IsLearned (Ports transport) on → ports_weight_under on other ≡ 0
  known_same other same on learned = ap (λ k. ports_weight_under on k) (sym same) ∙ ports_weight-known on transport learned

  same_weight : (other : Transport) → transport ≡ other → ports_weight_under known transport ≡ ports_weight_under known other
  same_weight other same = ap (λ k. ports_weight_under known k) same

  room_of_ports : (p : Primitive) → is_ports transport p ≡ true → HasRoom (Ports transport) known (primitive p)
  room_of_ports Ip only = cc
  room_of_ports (Proto n) only = cc
  room_of_ports (Host direction address) only = cc
  room_of_ports (Net direction prefix) only = cc
  room_of_ports (Port other direction n) only =
      let same = same_is transport other only in let v = same_weight other same in record { test = omega arith; rest = λ on learned. let w = known_same other same on learned in omega arith }
  room_of_ports (PortRange other direction n m) only =
      let same = same_is transport other only in let v = same_weight other same in record { test = omega arith; rest = λ on learned. let w = known_same other same on learned in omega arith }
  room_of_ports (AtMost n) only = cc
  room_of_ports (AtLeast n) only = cc

  room_for_ports : (tree : Tree) → has_only_ports transport tree ≡ true → HasRoom (Ports transport) known tree
  room_for_ports (primitive p) only = room_of_ports p only
  room_for_ports (relation left relator right) only = cc
  room_for_ports (negation tree) only = HasRoom-more (Ports transport) known tree (negation tree) 0 (λ k. omega arith) (room_for_ports tree only)
  room_for_ports (conjunction left right) only =
      HasRoom-more (Ports transport) known left (conjunction left right) (weight_of right) (λ k. refl) (room_for_ports left (both_true (has_only_ports transport left) (has_only_ports transport right) only).0)
  room_for_ports (disjunction left right) only =
      HasRoom-more (Ports transport) known left (disjunction left right) (weight_of right) (λ k. refl) (room_for_ports left (both_true (has_only_ports transport left) (has_only_ports transport right) only).0)

-- both, of an expression that begins with a guard
pub record IsSettled (guard : Guard) (known : Known) (tree : Tree) (b : Bool) : Type 0 where
  pub said : IsSaid guard tree b
  pub room : HasRoom guard known tree

pub settled : (guard : Guard) (known : Known) (tree : Tree) (b : Bool) → MayAsk guard known → BeginsWith guard tree → non_ipv4 tree ≡ Some b → IsSettled guard known tree b
settled Version known tree b may_ask begins is = record { said = said Version tree b tt is; room = room_for_version known may_ask tree b is begins }
settled (Ports transport) known tree b may_ask begins is = record { said = said (Ports transport) tree b begins is; room = room_for_ports transport known tree begins }

-- ---- an expression behind a guard

no_first : (guard : Guard) (tree : Tree) → IsSaid guard tree false → (t : Truth) (packet : List ℕ) → guard_truth guard packet ≡ t → (t and_then truth_of tree packet) ≡ truth_of tree packet
no_first guard tree is Yes packet first = refl
no_first guard tree is No packet first = sym (is.no packet first)
no_first guard tree is Fails packet first = sym (is.fails packet first)

yes_first : (guard : Guard) (tree : Tree) → IsSaid guard tree true → (t : Truth) (packet : List ℕ) → guard_truth guard packet ≡ t → (opposite t or_else truth_of tree packet) ≡ truth_of tree packet
yes_first guard tree is Yes packet first = refl
yes_first guard tree is No packet first = sym (is.no packet first)
yes_first guard tree is Fails packet first = sym (is.fails packet first)

module _ (guard : Guard) (tree : Tree) (known on : Known) (missed : Option Known) (learned : IsLearned guard on) {c0 c1 c2 : List ℕ} where
  -- packets that fail it go to no
  pub Writes-no_non_ipv4 : (if_yes second_no if_no : Known) {y y' n n' n'' : LabelValue} → IsSettled guard known tree false → ((packet : List ℕ) (a x : ℕ) → HoldsWhere missed packet a x → Holds if_no packet a x) → ((packet : List ℕ) (a x : ℕ) → Holds second_no packet a x → Holds if_no packet a x)
      → Guards (Tests (Holds known) (Holds on) (HoldsWhere missed) (guard_truth guard)) (guard_weight guard known) c0 c1 n n' → Writes (Tests (Holds on) (Holds if_yes) (Holds second_no) (truth_of tree)) (weight_under on tree) c1 c2 y y' n' n''
      → Writes (Tests (Holds known) (Holds if_yes) (Holds if_no) (truth_of tree)) (weight_under known tree) c0 c2 y y' n n''
  Writes-no_non_ipv4 if_yes second_no if_no is of_self of_no guards writes = Writes-means
      (λ at_yes at_no words h. Tests-same (Holds known) (Holds if_yes) (Holds if_no) (λ packet. guard_truth guard packet and_then truth_of tree packet) (truth_of tree) at_yes at_no words (λ packet a x ok g. no_first guard tree is.said (guard_truth guard packet) packet refl) h)
      (Writes-guarded known on if_yes second_no if_no missed (guard_truth guard) (truth_of tree) (weight_under known tree) (is.room.rest on learned) of_self of_no guards writes)

  -- they go to yes
  pub Writes-yes_non_ipv4 : (second_yes if_yes if_no : Known) {y y' y'' n n' : LabelValue} → IsSettled guard known tree true → ((packet : List ℕ) (a x : ℕ) → HoldsWhere missed packet a x → Holds if_yes packet a x) → ((packet : List ℕ) (a x : ℕ) → Holds second_yes packet a x → Holds if_yes packet a x)
      → Guards (Tests (Holds known) (Holds on) (HoldsWhere missed) (guard_truth guard)) (guard_weight guard known) c0 c1 y y' → Writes (Tests (Holds on) (Holds second_yes) (Holds if_no) (truth_of tree)) (weight_under on tree) c1 c2 y' y'' n n'
      → Writes (Tests (Holds known) (Holds if_yes) (Holds if_no) (truth_of tree)) (weight_under known tree) c0 c2 y y'' n n'
  Writes-yes_non_ipv4 second_yes if_yes if_no is of_self of_yes guards writes = Writes-weight (weight_under known tree) (is.room.rest on learned)
      (Guards-writes_no {one = λ at_yes at_no words. Tests (Holds known) (Holds on) (HoldsWhere missed) (guard_truth guard) at_no at_yes words} {both = Tests (Holds known) (Holds if_yes) (Holds if_no) (truth_of tree)}
      (λ at_yes at_no mid words h k. Tests-same (Holds known) (Holds if_yes) (Holds if_no) (λ packet. opposite (guard_truth guard packet) or_else truth_of tree packet) (truth_of tree) at_yes at_no words (λ packet a x ok g. yes_first guard tree is.said (guard_truth guard packet) packet refl)
      (Tests-or (Holds known) (Holds on) (Holds if_no) (HoldsWhere missed) (Holds second_yes) (Holds if_yes) (λ packet. opposite (guard_truth guard packet)) (truth_of tree) of_self of_yes at_yes at_no mid words k
      (Tests-not (Holds known) (HoldsWhere missed) (Holds on) (guard_truth guard) at_yes mid words h)))
      guards writes)
