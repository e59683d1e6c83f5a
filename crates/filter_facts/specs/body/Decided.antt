-- What is known of a packet that a primitive or a relation can't be true of, without a test that may fail before.
use Rattle.std.specs.Prelude.{◌≡◌, List, Some, ℕ}
use Rattle.ipv4_fields.specs.declared.header.Field.TheVariants.{Protocol}
use Rattle.ipv4_fields.specs.Field.{field_of}
use Rattle.filter_tree.specs.declared.primitive.Transport.{Transport}
use Rattle.filter_tree.specs.declared.truth.Truth.TheVariants.{No, Yes}
use Rattle.filter_tree.specs.Outcome.{◌and_then◌, tested}
use Rattle.filter_tree.specs.Primitive.{has_ports, is_first_fragment, is_ip, is_protocol}

-- one of IPv4 that has the byte of the protocol
pub record IsLoaded (packet : List ℕ) : Type 0 where
  pub ipv4 : is_ip packet ≡ Yes
  pub number : ℕ
  pub loaded : field_of Protocol packet ≡ Some number

abbrev pub IsNotIp : List ℕ → Type 0
IsNotIp packet = is_ip packet ≡ No

abbrev pub IsNotProtocol : ℕ → List ℕ → Type 0
IsNotProtocol n packet = IsLoaded packet × (is_protocol n packet ≡ No)

abbrev pub IsNotTransport : Transport → List ℕ → Type 0
IsNotTransport transport packet = IsLoaded packet × (tested (has_ports transport) (field_of Protocol packet) ≡ No)

-- what comes before the ports of a primitive is no
abbrev pub IsWithoutPorts : Transport → List ℕ → Type 0
IsWithoutPorts transport packet = (is_ip packet and_then tested (has_ports transport) (field_of Protocol packet) and_then is_first_fragment packet) ≡ No
