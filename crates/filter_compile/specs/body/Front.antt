-- The tests that may stand once in front of an expression: when they may, what they take, and what is known behind them.
use Rattle.std.specs.Prelude.{◌≡◌, ◌≢◌, ◌&&◌, Bool, List, None, Some, false, true, ℕ}
use Rattle.ipv4_fields.specs.declared.header.Field.TheVariants.{Protocol}
use Rattle.ipv4_fields.specs.Field.{field_of}
use Rattle.filter_tree.specs.declared.primitive.Primitive.{Primitive}
use Rattle.filter_tree.specs.declared.primitive.Primitive.TheVariants.{AtLeast, AtMost, Host, Ip, Net, Port, PortRange, Proto}
use Rattle.filter_tree.specs.declared.primitive.Transport.{Transport}
use Rattle.filter_tree.specs.declared.primitive.Transport.TheVariants.{Tcp, Udp, Unnamed}
use Rattle.filter_tree.specs.declared.truth.Truth.{Truth}
use Rattle.filter_tree.specs.Outcome.{◌and_then◌, tested}
use Rattle.filter_tree.specs.Primitive.{has_ports, is_first_fragment, is_ip}
use Rattle.filter_tree.specs.Tree.{Tree, conjunction, disjunction, negation, primitive, relation}
use Rattle.filter_facts.specs.declared.known.Known.{Known}
use Rattle.filter_facts.specs.Told.{ip_of, transport_of}
use Rattle.filter_compile.specs.declared.front.Guard.{Guard}
use Rattle.filter_compile.specs.declared.front.Guard.TheVariants.{Ports, Version}
use Rattle.filter_compile.specs.body.NonIpv4.{begins_with_ip}
use Rattle.filter_compile.specs.body.Weight.{leads_to_ports, ports_weight_under}

abbrev pub is_same : Transport → Transport → Bool
is_same Tcp Tcp = true
is_same Udp Udp = true
is_same Unnamed Unnamed = true
is_same _ _ = false

-- all parts of an expression are ports of one transport
abbrev pub is_ports : Transport → Primitive → Bool
is_ports transport Ip = false
is_ports transport (Proto n) = false
is_ports transport (Host direction address) = false
is_ports transport (Net direction prefix) = false
is_ports transport (Port other direction n) = is_same transport other
is_ports transport (PortRange other direction n m) = is_same transport other
is_ports transport (AtMost n) = false
is_ports transport (AtLeast n) = false

abbrev pub has_only_ports : Transport → Tree → Bool
has_only_ports transport (primitive p) = is_ports transport p
has_only_ports transport (relation left relator right) = false
has_only_ports transport (negation tree) = has_only_ports transport tree
has_only_ports transport (conjunction left right) = has_only_ports transport left && has_only_ports transport right
has_only_ports transport (disjunction left right) = has_only_ports transport left && has_only_ports transport right

-- what is tested, with how many instructions at most
abbrev pub guard_truth : Guard → List ℕ → Truth
guard_truth Version packet = is_ip packet
guard_truth (Ports transport) packet = is_ip packet and_then tested (has_ports transport) (field_of Protocol packet) and_then is_first_fragment packet

abbrev pub guard_weight : Guard → Known → ℕ
guard_weight Version known = 5
guard_weight (Ports transport) known = ports_weight_under known transport

-- it is not known, so that something is learned
abbrev pub MayAsk : Guard → Known → Type 0
MayAsk Version known = ip_of known ≡ None
MayAsk (Ports transport) known = (ip_of known ≢ Some false) × (transport_of known transport ≢ Some false)

abbrev pub IsLearned : Guard → Known → Type 0
IsLearned Version known = ip_of known ≡ Some true
IsLearned (Ports transport) known = leads_to_ports known transport ≡ true

-- the expression begins with it, and is shorter by it where it is known
abbrev pub BeginsWith : Guard → Tree → Type 0
BeginsWith Version tree = begins_with_ip tree ≡ false
BeginsWith (Ports transport) tree = has_only_ports transport tree ≡ true
