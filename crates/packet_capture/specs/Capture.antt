-- The records of a capture file, and the result of each (docs/COMMANDS.md, "packets").
use Rattle.std.specs.Prelude.{◌≡◌, ◌-◌, ◌∷◌, List, None, Option, Some, [], drop, if◌then◌else◌, is_some, length, suc, ℕ}
use Rattle.packet_capture.specs.declared.content.Content.{Content}
use Rattle.packet_capture.specs.declared.content.Content.TheVariants.{Cut, Other, Packet}
use Rattle.packet_capture.specs.declared.header.FileHeader.{FileHeader}
use Rattle.packet_capture.specs.declared.Summary.{Summary}
use Rattle.packet_capture.specs.Content.{IsContent}
use Rattle.packet_capture.specs.Header.{IsFileHeader}
use Rattle.packet_capture.specs.Record.{HasNoRecord, IsRecord}
use Rattle.packet_udp.specs.Payload.{payload_to}

-- the bytes are records with these contents, one after the other, and then the rest
abbrev pub AreRecords : FileHeader → List ℕ → List Content → List ℕ → Type 0
AreRecords header bytes [] rest = bytes ≡ rest
AreRecords header bytes (content ∷ contents) rest =
    (captured behind : List ℕ)
    × IsRecord header.order bytes captured behind
    × IsContent header.link_type header.order captured content
    × AreRecords header behind contents rest

-- the printed bytes of a packet: the packet itself. If a port is given: the payload of a datagram to this port, and nothing of
-- another packet
abbrev pub printed_packet : Option ℕ → List ℕ → Option (List ℕ)
printed_packet None packet = Some packet
printed_packet (Some port) packet = payload_to port packet

-- a packet, if there is one, before others
abbrev pub with_some : Option (List ℕ) → List (List ℕ) → List (List ℕ)
with_some None packets = packets
with_some (Some packet) packets = packet ∷ packets

-- the printed bytes of the packets among the contents, in order
abbrev pub packets_of : Option ℕ → List Content → List (List ℕ)
packets_of unwrap [] = []
packets_of unwrap (Packet packet ∷ contents) = with_some (printed_packet unwrap packet.now) (packets_of unwrap contents)
packets_of unwrap (Cut ∷ contents) = packets_of unwrap contents
packets_of unwrap (Other ∷ contents) = packets_of unwrap contents

-- the number of cut packets among them
abbrev pub cuts_of : List Content → ℕ
cuts_of [] = 0
cuts_of (Packet packet ∷ contents) = cuts_of contents
cuts_of (Cut ∷ contents) = suc (cuts_of contents)
cuts_of (Other ∷ contents) = cuts_of contents

-- the number of other contents, and of packets of which nothing is printed
abbrev pub others_of : Option ℕ → List Content → ℕ
others_of unwrap [] = 0
others_of unwrap (Packet packet ∷ contents) =
    if is_some (printed_packet unwrap packet.now) then others_of unwrap contents else suc (others_of unwrap contents)
others_of unwrap (Cut ∷ contents) = others_of unwrap contents
others_of unwrap (Other ∷ contents) = suc (others_of unwrap contents)

-- the place in a file of the last bytes, none if there are no more
abbrev pub place_of : List ℕ → List ℕ → Option ℕ
place_of file [] = None
place_of file (byte ∷ rest) = Some (length file - length (byte ∷ rest))

-- the file is a header, records with these contents, and a rest that begins with no whole record
pub record IsCapture (file : List ℕ) (header : FileHeader) (contents : List Content) (rest : List ℕ) : Type 0 where
  pub is_header : IsFileHeader file header
  pub are_records : AreRecords header (drop 24 file) contents rest
  pub no_more : HasNoRecord header.order rest

-- the numbers of records of a file by content, and the place where it is cut
pub record IsSummary (unwrap : Option ℕ) (file : List ℕ) (summary : Summary) : Type 0 where
  pub contents : List Content
  pub rest : List ℕ
  pub is_capture : IsCapture file summary.header contents rest
  pub whole : summary.whole ≡ length (packets_of unwrap contents)
  pub cut : summary.cut ≡ cuts_of contents
  pub other : summary.other ≡ others_of unwrap contents
  pub cut_at : summary.cut_at ≡ place_of file rest
