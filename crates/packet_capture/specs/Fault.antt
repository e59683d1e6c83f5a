-- Why the header of a capture file is not read (docs/COMMANDS.md, "Refusals"). The faults are reported in this order.
use Rattle.std.specs.Prelude.{◌≡◌, ◌≢◌, ◌≤◌, ◌<◌, ◌⊎◌, IsSome, List, None, Some, length, ℕ}
use Rattle.packet_capture.specs.declared.fault.HeaderFault.{HeaderFault}
use Rattle.packet_capture.specs.declared.fault.HeaderFault.TheVariants.{Cut, LinkType, Magic, Pcapng, Version}
use Rattle.packet_capture.specs.declared.header.FileHeader.{FileHeader}
use Rattle.packet_capture.specs.declared.order.Order.{Order}
use Rattle.packet_capture.specs.declared.order.Order.TheVariants.{Big}
use Rattle.packet_capture.specs.Header.{IsFileHeader, link_number, link_type_of, order_of}
use Rattle.packet_capture.specs.Number.{number_at}

-- the magic number, high byte first
abbrev pub magic_of : List ℕ → ℕ
magic_of bytes = number_at Big 4 bytes 0

-- the block type of pcapng's section header (draft-ietf-opsawg-pcapng, section 4.1)
abbrev pub pcapng_magic : ℕ
pcapng_magic = 0x0a0d_0d0a

-- the file ends in its header
abbrev pub IsCutHeader : List ℕ → Type 0
IsCutHeader bytes = (length bytes < 4) ⊎ ((length bytes < 24) × IsSome (order_of (magic_of bytes)))

-- the header is whole, in this byte order
pub record IsWholeIn (order : Order) (bytes : List ℕ) : Type 0 where
  pub complete : 24 ≤ length bytes
  pub magic : order_of (magic_of bytes) ≡ Some order

-- the version is 2.4
pub record IsVersion (order : Order) (bytes : List ℕ) : Type 0 where
  pub major : number_at order 2 bytes 4 ≡ 2
  pub minor : number_at order 2 bytes 6 ≡ 4

-- a link type that is not supported
pub record IsUnreadLinkType (number : ℕ) (order : Order) (bytes : List ℕ) : Type 0 where
  pub version : IsVersion order bytes
  pub number_is : number ≡ link_number order bytes
  pub unread : link_type_of number ≡ None

abbrev pub IsHeaderFault : List ℕ → HeaderFault → Type 0
IsHeaderFault bytes Pcapng = (4 ≤ length bytes) × (magic_of bytes ≡ pcapng_magic)
IsHeaderFault bytes Magic = (4 ≤ length bytes) × (magic_of bytes ≢ pcapng_magic) × (order_of (magic_of bytes) ≡ None)
IsHeaderFault bytes Cut = IsCutHeader bytes
IsHeaderFault bytes Version = (order : Order) × IsWholeIn order bytes × (IsVersion order bytes → ⊥)
IsHeaderFault bytes (LinkType number) = (order : Order) × IsWholeIn order bytes × IsUnreadLinkType number order bytes

-- bytes have at most one header, at most one fault, and never both
pub record HasOneHeader (bytes : List ℕ) : Type 0 where
  pub one_header : (a b : FileHeader) → IsFileHeader bytes a → IsFileHeader bytes b → a ≡ b
  pub one_fault : (a b : HeaderFault) → IsHeaderFault bytes a → IsHeaderFault bytes b → a ≡ b
  pub not_both : (header : FileHeader) (fault : HeaderFault) → IsFileHeader bytes header → IsHeaderFault bytes fault → ⊥
