-- Weights by what is known: each is at most the whole one.
use Rattle.std.proofs.Common.{◌≡◌, ◌∙◌, ◌+◌, ◌≤◌, Bool, None, Option, Some, ap, arith, false, refl, sym, true, ℕ}
use Rattle.std.specs.Prelude.{◌≢◌, if◌then◌else◌}
use Rattle.filter_tree.specs.declared.arithmetic.Protocol.{Protocol}
use Rattle.filter_tree.specs.declared.arithmetic.Protocol.TheVariants as data_is
use Rattle.filter_tree.specs.declared.primitive.Direction.{Direction}
use Rattle.filter_tree.specs.declared.primitive.Direction.TheVariants.{Both, Destination, Either, Source}
use Rattle.filter_tree.specs.declared.primitive.Primitive.{Primitive}
use Rattle.filter_tree.specs.declared.primitive.Primitive.TheVariants.{AtLeast, AtMost, Host, Ip, Net, Port, PortRange, Proto}
use Rattle.filter_tree.specs.declared.primitive.Transport.{Transport}
use Rattle.filter_tree.specs.declared.primitive.Transport.TheVariants.{Tcp, Udp, Unnamed}
use Rattle.filter_tree.specs.declared.sides.Accesses.{Accesses}
use Rattle.filter_tree.specs.Measure.{by_direction, weight_of, weight_of_primitive, weight_where}
use Rattle.filter_tree.specs.Tree.{Tree, conjunction, disjunction, negation, primitive, relation}
use Rattle.filter_tree.specs.Truth.{accesses_of_both, any_accessor, used_by}
use Rattle.filter_facts.specs.declared.known.Known.{Known}
use Rattle.filter_facts.specs.Told.{ip_of}
use Rattle.filter_compile.specs.declared.check.Check.TheVariants.{Between, Equal}
use Rattle.filter_compile.specs.body.Header.{weight_of_ports, weight_of_transport}
use Rattle.filter_compile.specs.body.Weight.{leads_to_ports, ports_weight_under, version_weight, version_weight_under, weight_of_guards_under, weight_of_primitive_under, weight_under}

-- ---- the version

asked_weight : (told : Option Bool) → told ≢ Some true → version_weight told ≡ 5
asked_weight None asked = refl
asked_weight (Some false) asked = refl
asked_weight (Some true) asked = absurd (asked refl)

pub version_weight-asked : (known : Known) (told : Option Bool) → told ≡ ip_of known → told ≢ Some true → version_weight_under known ≡ 5
version_weight-asked known told is asked = ap version_weight (sym is) ∙ asked_weight told asked

version_few : (told : Option Bool) → version_weight told ≤ 5
version_few None = omega arith
version_few (Some false) = omega arith
version_few (Some true) = omega arith

-- ---- what comes before ports

led_weight : (led : Bool) (whole : ℕ) → (if led then 0 else whole) ≤ whole
led_weight true whole = omega arith
led_weight false whole = omega arith

pub ports_few : (known : Known) (transport : Transport) → ports_weight_under known transport ≤ weight_of_transport transport + 4 + version_weight_under known
ports_few known transport = led_weight (leads_to_ports known transport) (weight_of_transport transport + 4 + version_weight_under known)

not_led : (led : Bool) (whole : ℕ) → led ≡ false → (if led then 0 else whole) ≡ whole
not_led true whole is = absurd cc
not_led false whole is = refl

led : (led : Bool) (whole : ℕ) → led ≡ true → (if led then 0 else whole) ≡ 0
led true whole is = refl
led false whole is = absurd cc

-- it is written whole where it is not known, and not at all where it is
pub ports_weight-asked : (known : Known) (transport : Transport) → leads_to_ports known transport ≡ false → ports_weight_under known transport ≡ weight_of_transport transport + 4 + version_weight_under known
ports_weight-asked known transport is = not_led (leads_to_ports known transport) (weight_of_transport transport + 4 + version_weight_under known) is

pub ports_weight-known : (known : Known) (transport : Transport) → leads_to_ports known transport ≡ true → ports_weight_under known transport ≡ 0
ports_weight-known known transport is = led (leads_to_ports known transport) (weight_of_transport transport + 4 + version_weight_under known) is

-- ---- primitives

by_direction_plus : (direction : Direction) (n one two : ℕ) → by_direction direction one two + n ≡ by_direction direction (one + n) (two + n)
by_direction_plus Source n one two = refl
by_direction_plus Destination n one two = refl
by_direction_plus Either n one two = refl
by_direction_plus Both n one two = refl

pub port_weight : (known : Known) (transport : Transport) (direction : Direction) (n k : ℕ) → weight_of_ports (ports_weight_under known transport) direction (Equal k) ≤ weight_of_primitive_under known (Port transport direction n)
port_weight known transport direction n k = let e : by_direction direction 4 8 + 1 ≡ by_direction direction 5 9 = by_direction_plus direction 1 4 8 in omega arith

pub port_range_weight : (known : Known) (transport : Transport) (direction : Direction) (n m j k : ℕ) → weight_of_ports (ports_weight_under known transport) direction (Between j k) ≤ weight_of_primitive_under known (PortRange transport direction n m)
port_range_weight known transport direction n m j k = let e : by_direction direction 7 14 + 1 ≡ by_direction direction 8 15 = by_direction_plus direction 1 7 14 in omega arith

by_direction_some : (direction : Direction) (n m : ℕ) → 1 ≤ n → 1 ≤ m → 1 ≤ by_direction direction n m
by_direction_some Source n m one two = one
by_direction_some Destination n m one two = one
by_direction_some Either n m one two = two
by_direction_some Both n m one two = two

pub primitive_weight : (known : Known) (primitive : Primitive) → 1 ≤ weight_of_primitive_under known primitive
primitive_weight known Ip = omega arith
primitive_weight known (Proto n) = omega arith
primitive_weight known (Host direction address) = let one = by_direction_some direction 4 8 (omega arith) (omega arith) in omega arith
primitive_weight known (Net direction prefix) = let one = by_direction_some direction 5 10 (omega arith) (omega arith) in omega arith
primitive_weight known (Port transport direction n) = let one = by_direction_some direction 5 9 (omega arith) (omega arith) in omega arith
primitive_weight known (PortRange transport direction n m) = let one = by_direction_some direction 8 15 (omega arith) (omega arith) in omega arith
primitive_weight known (AtMost n) = omega arith
primitive_weight known (AtLeast n) = omega arith

-- the whole weight of ports: what comes before them, and the tests of the ends
pub port_whole : (transport : Transport) (direction : Direction) (n : ℕ) → weight_of_transport transport + 9 + by_direction direction 5 9 ≡ weight_of_primitive (Port transport direction n)
port_whole Tcp direction n = let e : by_direction direction 5 9 + 13 ≡ by_direction direction 18 22 = by_direction_plus direction 13 5 9 in omega arith
port_whole Udp direction n = let e : by_direction direction 5 9 + 13 ≡ by_direction direction 18 22 = by_direction_plus direction 13 5 9 in omega arith
port_whole Unnamed direction n = let e : by_direction direction 5 9 + 19 ≡ by_direction direction 24 28 = by_direction_plus direction 19 5 9 in omega arith

pub port_range_whole : (transport : Transport) (direction : Direction) (n m : ℕ) → weight_of_transport transport + 9 + by_direction direction 8 15 ≡ weight_of_primitive (PortRange transport direction n m)
port_range_whole Tcp direction n m = let e : by_direction direction 8 15 + 13 ≡ by_direction direction 21 28 = by_direction_plus direction 13 8 15 in omega arith
port_range_whole Udp direction n m = let e : by_direction direction 8 15 + 13 ≡ by_direction direction 21 28 = by_direction_plus direction 13 8 15 in omega arith
port_range_whole Unnamed direction n m = let e : by_direction direction 8 15 + 19 ≡ by_direction direction 27 34 = by_direction_plus direction 19 8 15 in omega arith

where_within : (used : Bool) (v : ℕ) → v ≤ 5 → weight_where used v ≤ weight_where used 5
where_within true v few = few
where_within false v few = omega arith

-- the guards of what accessors read, by each of the four
pub guards_weight-used_by : (known : Known) (used : Accesses) (other : Protocol → Bool) → used.ip ≡ other data_is.Ip → used.tcp ≡ other data_is.Tcp → used.udp ≡ other data_is.Udp → used.icmp ≡ other data_is.Icmp
    → weight_of_guards_under known (used_by used) ≡ weight_of_guards_under known other
guards_weight-used_by known used other ip tcp udp icmp = cc

-- ---- expressions

-- what is known makes no program longer
module _ (known : Known) where
  few : version_weight_under known ≤ 5
  few = version_few (ip_of known)

  primitive_within : (p : Primitive) → weight_of_primitive_under known p ≤ weight_of_primitive p
  primitive_within Ip = omega arith
  primitive_within (Proto n) = let v = few in omega arith
  primitive_within (Host direction address) = let v = few in let e : by_direction direction 4 8 + 5 ≡ by_direction direction 9 13 = by_direction_plus direction 5 4 8 in omega arith
  primitive_within (Net direction prefix) = let v = few in let e : by_direction direction 5 10 + 5 ≡ by_direction direction 10 15 = by_direction_plus direction 5 5 10 in omega arith
  primitive_within (Port transport direction n) = let v = few in let ports = ports_few known transport in let whole = port_whole transport direction n in omega arith
  primitive_within (PortRange transport direction n m) = let v = few in let ports = ports_few known transport in let whole = port_range_whole transport direction n m in omega arith
  primitive_within (AtMost n) = omega arith
  primitive_within (AtLeast n) = omega arith

  pub weight_under-within : (tree : Tree) → weight_under known tree ≤ weight_of tree
  weight_under-within (primitive p) = primitive_within p
  weight_under-within (relation left relator right) = let within = where_within (any_accessor (accesses_of_both left right)) (version_weight_under known) few in omega arith
  weight_under-within (negation tree) = weight_under-within tree
  weight_under-within (conjunction left right) = let within = weight_under-within left in omega arith
  weight_under-within (disjunction left right) = let within = weight_under-within left in omega arith
