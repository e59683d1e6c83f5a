-- The packet that `pack` prints, and why it refuses (docs/COMMANDS.md, "pack").
use Rattle.std.specs.Prelude.{◌≡◌, ◌≢◌, ◌<◌, ◌⊎◌, List, None, Option, Some, [], length, string_bytes, ℕ}
use Rattle.hex.specs.Hex.{encode_lower}
use Rattle.control_line.specs.Packet.{IsRefusalOfHex, SpellsPacket}
use Rattle.control_line.specs.declared.reason.Reason.{Reason}
use Rattle.control_line.specs.declared.reason.Reason.TheVariants.{BadForm, PacketTooLong}
use Rattle.ipv4_fields.specs.Endpoint.{IsEndpoint, endpoint_text}
use Rattle.ipv4_fields.specs.declared.endpoint.Endpoint.{Endpoint}
use Rattle.packet_udp.specs.Packet.{IsUdpPacket}
use Rattle.packet_udp.specs.declared.TheConstants.{MAX_PAYLOAD}
use Rattle.command_query.specs.declared.command_result.CommandResult.{CommandResult}
use Rattle.command_query.specs.declared.command_result.CommandResult.TheVariants.{Packed}

-- the text is that of the endpoint
pub record IsTextOf (text : List ℕ) (endpoint : Endpoint) : Type 0 where
  pub is_endpoint : IsEndpoint endpoint
  pub text_is : text ≡ endpoint_text endpoint

-- it is that of none
abbrev pub IsTextOfNone : List ℕ → Type 0
IsTextOfNone text = (endpoint : Endpoint) → IsEndpoint endpoint → text ≢ endpoint_text endpoint

-- the payload is what the digits spell, or the text; without both it is empty, and with both there is none
abbrev pub IsPayload : (digits text : Option (List ℕ)) → List ℕ → Type 0
IsPayload None None payload = payload ≡ []
IsPayload (Some digits) None payload = SpellsPacket digits payload
IsPayload None (Some text) payload = payload ≡ text
IsPayload (Some digits) (Some text) payload = ⊥

-- the digits of the packet that carries the payload from one endpoint to the other
abbrev pub IsPayloadAnswer : Endpoint → Endpoint → List ℕ → CommandResult → Type 0
IsPayloadAnswer from to payload (Packed digits) =
    (packet : List ℕ) × IsUdpPacket from to payload packet × (string_bytes digits ≡ encode_lower packet)
IsPayloadAnswer from to payload _ = ⊥

pub record IsPackAnswer (source destination : List ℕ) (digits text : Option (List ℕ)) (answer : CommandResult) : Type 0 where
  pub from : Endpoint
  pub to : Endpoint
  pub payload : List ℕ
  pub source_is : IsTextOf source from
  pub destination_is : IsTextOf destination to
  pub payload_is : IsPayload digits text payload
  pub packet_is : IsPayloadAnswer from to payload answer

-- the payload is longer than a packet has room for
pub record IsTooLong (payload : List ℕ) (reason : Reason) : Type 0 where
  pub long : MAX_PAYLOAD < length payload
  pub reason_is : reason ≡ PacketTooLong

-- why there is no payload
abbrev pub IsRefusalOfPayload : (digits text : Option (List ℕ)) → Reason → Type 0
IsRefusalOfPayload None None reason = ⊥
IsRefusalOfPayload (Some digits) None reason = IsRefusalOfHex digits reason ⊎ ((payload : List ℕ) × SpellsPacket digits payload × IsTooLong payload reason)
IsRefusalOfPayload None (Some text) reason = IsTooLong text reason
IsRefusalOfPayload (Some digits) (Some text) reason = reason ≡ BadForm

-- a payload of two endpoints is refused
pub record IsRefusalBetween (source destination : List ℕ) (digits text : Option (List ℕ)) (reason : Reason) : Type 0 where
  pub from : Endpoint
  pub to : Endpoint
  pub source_is : IsTextOf source from
  pub destination_is : IsTextOf destination to
  pub refuses : IsRefusalOfPayload digits text reason

-- why there is no packet; the endpoints are read first
abbrev pub IsRefusalOfPack : (source destination : List ℕ) (digits text : Option (List ℕ)) → Reason → Type 0
IsRefusalOfPack source destination digits text reason =
    ((reason ≡ BadForm) × (IsTextOfNone source ⊎ IsTextOfNone destination)) ⊎ IsRefusalBetween source destination digits text reason
