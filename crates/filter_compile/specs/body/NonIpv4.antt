-- What an expression says of every packet that is not of IPv4, none where that is not settled: a part that does not test the
-- version may say yes, say no or fail. And whether its first test is the primitive `ip`.
use Rattle.std.specs.Prelude.{if◌then◌else◌, Bool, None, Option, Some, false, not, option_map, true}
use Rattle.filter_tree.specs.declared.arithmetic.Protocol.{Protocol}
use Rattle.filter_tree.specs.declared.primitive.Primitive.{Primitive}
use Rattle.filter_tree.specs.declared.primitive.Primitive.TheVariants.{AtLeast, AtMost, Host, Ip, Net, Port, PortRange, Proto}
use Rattle.filter_tree.specs.Tree.{Tree, conjunction, disjunction, negation, primitive, relation}
use Rattle.filter_tree.specs.Truth.{accesses_of_both, any_accessor}

abbrev pub primitive_non_ipv4 : Primitive → Option Bool
primitive_non_ipv4 Ip = Some false
primitive_non_ipv4 (Proto n) = Some false
primitive_non_ipv4 (Host direction address) = Some false
primitive_non_ipv4 (Net direction prefix) = Some false
primitive_non_ipv4 (Port transport direction n) = Some false
primitive_non_ipv4 (PortRange transport direction n m) = Some false
primitive_non_ipv4 (AtMost n) = None
primitive_non_ipv4 (AtLeast n) = None

-- a relation whose accessors read these protocols' data
abbrev pub accesses_non_ipv4 : (Protocol → Bool) → Option Bool
accesses_non_ipv4 used = if any_accessor used then Some false else None

abbrev pub not_non_ipv4 : Option Bool → Option Bool
not_non_ipv4 told = option_map not told

-- the right part counts where the left one leads there
abbrev pub and_non_ipv4 : Option Bool → Option Bool → Option Bool
and_non_ipv4 None second = None
and_non_ipv4 (Some false) second = Some false
and_non_ipv4 (Some true) second = second

abbrev pub or_non_ipv4 : Option Bool → Option Bool → Option Bool
or_non_ipv4 None second = None
or_non_ipv4 (Some false) second = second
or_non_ipv4 (Some true) second = Some true

abbrev pub non_ipv4 : Tree → Option Bool
non_ipv4 (primitive p) = primitive_non_ipv4 p
non_ipv4 (relation left relator right) = accesses_non_ipv4 (accesses_of_both left right)
non_ipv4 (negation tree) = not_non_ipv4 (non_ipv4 tree)
non_ipv4 (conjunction left right) = and_non_ipv4 (non_ipv4 left) (non_ipv4 right)
non_ipv4 (disjunction left right) = or_non_ipv4 (non_ipv4 left) (non_ipv4 right)

abbrev pub is_ip_primitive : Primitive → Bool
is_ip_primitive Ip = true
is_ip_primitive (Proto n) = false
is_ip_primitive (Host direction address) = false
is_ip_primitive (Net direction prefix) = false
is_ip_primitive (Port transport direction n) = false
is_ip_primitive (PortRange transport direction n m) = false
is_ip_primitive (AtMost n) = false
is_ip_primitive (AtLeast n) = false

abbrev pub begins_with_ip : Tree → Bool
begins_with_ip (primitive p) = is_ip_primitive p
begins_with_ip (relation left relator right) = false
begins_with_ip (negation tree) = begins_with_ip tree
begins_with_ip (conjunction left right) = begins_with_ip left
begins_with_ip (disjunction left right) = begins_with_ip left
