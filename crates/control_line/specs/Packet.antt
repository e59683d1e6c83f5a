-- A packet as hexadecimal digits (docs/COMMANDS.md, "run").
use Rattle.std.specs.Prelude.{◌≡◌, ◌<◌, ◌≤◌, ◌%◌, ◌*◌, List, Ok, length, unwrap_or, ℕ}
use Rattle.std.specs.List.{AllPass}
use Rattle.bpf_machine.specs.declared.TheConstants.{MAX_PACKET}
use Rattle.hex.specs.Hex.{decode_of, hex_digit_value, is_hex_digit}
use Rattle.control_line.specs.declared.reason.Reason.{Reason}
use Rattle.control_line.specs.declared.reason.Reason.TheVariants.{BadForm, PacketTooLong}

-- the worth of a byte as a hexadecimal digit of either case; 16 is no digit
abbrev pub digit_worth : ℕ → ℕ
digit_worth byte = unwrap_or (hex_digit_value byte) 16

-- an even number of hexadecimal digits of either case, possibly none
pub record IsHex (text : List ℕ) : Type 0 where
  pub even : length text % 2 ≡ 0
  pub digits : AllPass is_hex_digit text

-- the digits spell these bytes, two a byte, the high four bits first. They are no more than a packet may have
pub record SpellsPacket (text packet : List ℕ) : Type 0 where
  pub spells : decode_of text ≡ Ok packet
  pub not_too_long : length packet ≤ MAX_PACKET

-- they spell more than that
pub record SpellsTooMuch (text : List ℕ) : Type 0 where
  pub hex : IsHex text
  pub too_long : 2 * MAX_PACKET < length text

-- why no packet is read from a text
abbrev pub IsRefusalOfHex : List ℕ → Reason → Type 0
IsRefusalOfHex text BadForm = IsHex text → ⊥
IsRefusalOfHex text PacketTooLong = SpellsTooMuch text
IsRefusalOfHex text _ = ⊥
