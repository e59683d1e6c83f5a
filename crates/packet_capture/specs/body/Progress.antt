-- How far the records of a file were read, and its packets written.
use Rattle.std.specs.Prelude.{◌≡◌, ◌+◌, ◌∷◌, ◌⊎◌, List, Option, [], drop, length, ℕ}
use Rattle.std.specs.Io.KnownBytes.{Appends}
use Rattle.packet_capture.specs.declared.content.Content.{Content}
use Rattle.packet_capture.specs.declared.header.FileHeader.{FileHeader}
use Rattle.packet_capture.specs.declared.Summary.{Summary}
use Rattle.packet_capture.specs.Capture.{AreRecords, cuts_of, others_of, packets_of}
use Rattle.command_line.specs.Ending.{AppendsBeginning}
use Rattle.packet_capture.specs.Packets.{WritesBeginning, packet_lines}

-- the records at the front of the bytes were counted, up to the rest
pub record IsCounted (unwrap : Option ℕ) (header : FileHeader) (bytes : List ℕ) (summary : Summary) (rest : List ℕ) : Type 0 where
  pub contents : List Content
  pub are_records : AreRecords header bytes contents rest
  pub whole : summary.whole ≡ length (packets_of unwrap contents)
  pub cut : summary.cut ≡ cuts_of contents
  pub other : summary.other ≡ others_of unwrap contents

-- one content more was counted
pub record CountsOne (unwrap : Option ℕ) (content : Content) (before after : Summary) : Type 0 where
  pub whole : after.whole ≡ before.whole + length (packets_of unwrap (content ∷ []))
  pub cut : after.cut ≡ before.cut + cuts_of (content ∷ [])
  pub other : after.other ≡ before.other + others_of unwrap (content ∷ [])
  pub cut_at : after.cut_at ≡ before.cut_at
  pub header : after.header ≡ before.header

-- of the records at the front of the bytes, up to the rest, the packets were written
pub record WritesRecords (unwrap : Option ℕ) (header : FileHeader) (bytes rest : List ℕ) (before after : Option (List ℕ)) : Type 0 where
  pub contents : List Content
  pub are_records : AreRecords header bytes contents rest
  pub written : Appends before after (packet_lines unwrap contents)

-- so were those of some first records
abbrev pub WritesSome : Option ℕ → FileHeader → List ℕ → Option (List ℕ) → Option (List ℕ) → Type 0
WritesSome unwrap header bytes before after = (rest : List ℕ) × WritesRecords unwrap header bytes rest before after

-- a beginning was written of the packets of some first records
pub record BeginsRecords (unwrap : Option ℕ) (header : FileHeader) (bytes : List ℕ) (before after : Option (List ℕ)) : Type 0 where
  pub contents : List Content
  pub rest : List ℕ
  pub are_records : AreRecords header bytes contents rest
  pub begun : AppendsBeginning before after (packet_lines unwrap contents)

-- of those of a file, or of the text of the whole file
abbrev pub BeginsCapture : Option ℕ → FileHeader → List ℕ → Option (List ℕ) → Option (List ℕ) → Type 0
BeginsCapture unwrap header file before after = BeginsRecords unwrap header (drop 24 file) before after ⊎ WritesBeginning unwrap file before after
