-- The output of `packets` (docs/COMMANDS.md, "packets").
use Rattle.std.specs.Prelude.{◌≡◌, ◌≢◌, ◌++◌, ◌⊎◌, List, None, Option, Some, [], codes, decimal, drop, ℕ}
use Rattle.std.specs.Io.KnownBytes.{Appends}
use Rattle.std.specs.List.{flat_map}
use Rattle.packet_capture.specs.Capture.{AreRecords, IsCapture, IsSummary, packets_of, place_of}
use Rattle.packet_capture.specs.Fault.{IsHeaderFault}
use Rattle.packet_capture.specs.Header.{IsFileHeader}
use Rattle.packet_capture.specs.declared.Summary.{Summary}
use Rattle.packet_capture.specs.declared.content.Content.{Content}
use Rattle.packet_capture.specs.declared.fault.HeaderFault.{HeaderFault}
use Rattle.packet_capture.specs.declared.fault.HeaderFault.TheVariants.{Cut, LinkType, Magic, Pcapng, Version}
use Rattle.packet_capture.specs.declared.header.FileHeader.{FileHeader}
use Rattle.command_line.specs.Ending.{AppendsBeginning}
use Rattle.command_line.specs.declared.ending.Status.{Status}
use Rattle.command_line.specs.declared.ending.Status.TheVariants.{Done, Refused}
use Rattle.hex.specs.Hex.{encode_lower}

-- a packet as a line of a script
abbrev pub packet_line : List ℕ → List ℕ
packet_line packet = codes "packet " ++ encode_lower packet ++ codes "\n"

-- the lines of the packets among the contents of records; if a port is given, of the packets that the datagrams to it carry
abbrev pub packet_lines : Option ℕ → List Content → List ℕ
packet_lines unwrap contents = flat_map packet_line (packets_of unwrap contents)

-- the text of a header's fault
abbrev pub header_fault_text : HeaderFault → List ℕ
header_fault_text Magic = codes "refused L1"
header_fault_text Pcapng = codes "refused L2"
header_fault_text Version = codes "refused L3"
header_fault_text (LinkType number) = codes "refused L4 " ++ decimal number
header_fault_text Cut = codes "refused L5 0"

-- the text about a file that is cut in a record: nothing if it is not cut
abbrev pub cut_text : Option ℕ → List ℕ
cut_text None = []
cut_text (Some place) = codes "refused L5 " ++ decimal place ++ codes "\n"

-- the text of a capture: a line for each packet in it
pub record IsTextOfCapture (unwrap : Option ℕ) (file text : List ℕ) : Type 0 where
  pub header : FileHeader
  pub contents : List Content
  pub is_capture : IsCapture file header contents []
  pub text_is : text ≡ packet_lines unwrap contents

-- the text of a capture that is cut in a record: a line for each packet before that, and the refusal
pub record IsTextOfCut (unwrap : Option ℕ) (file text : List ℕ) : Type 0 where
  pub header : FileHeader
  pub contents : List Content
  pub rest : List ℕ
  pub is_capture : IsCapture file header contents rest
  pub is_cut : rest ≢ []
  pub text_is : text ≡ packet_lines unwrap contents ++ cut_text (place_of file rest)

-- the text of a file whose header is not read
pub record IsTextOfFault (file text : List ℕ) : Type 0 where
  pub fault : HeaderFault
  pub is_fault : IsHeaderFault file fault
  pub text_is : text ≡ header_fault_text fault ++ codes "\n"

-- the text that is written of a file, by the status
abbrev pub IsPacketsText : Option ℕ → List ℕ → Status → List ℕ → Type 0
IsPacketsText unwrap file Done text = IsTextOfCapture unwrap file text
IsPacketsText unwrap file Refused text = IsTextOfCut unwrap file text ⊎ IsTextOfFault file text
IsPacketsText unwrap file _ text = ⊥

-- that text was written after the earlier text, and nothing else
pub record WritesText (unwrap : Option ℕ) (file : List ℕ) (status : Status) (before after : Option (List ℕ)) : Type 0 where
  pub text : List ℕ
  pub text_is : IsPacketsText unwrap file status text
  pub written : Appends before after text

-- a beginning of the text that a status means was written, possibly none of it or the whole, and nothing else
pub record WritesBeginning (unwrap : Option ℕ) (file : List ℕ) (before after : Option (List ℕ)) : Type 0 where
  pub status : Status
  pub text : List ℕ
  pub text_is : IsPacketsText unwrap file status text
  pub begun : AppendsBeginning before after text

-- of the packets of a file, those of some first records were written, and nothing else
pub record WritesFirst (unwrap : Option ℕ) (file : List ℕ) (before after : Option (List ℕ)) : Type 0 where
  pub header : FileHeader
  pub contents : List Content
  pub rest : List ℕ
  pub is_header : IsFileHeader file header
  pub are_records : AreRecords header (drop 24 file) contents rest
  pub written : Appends before after (packet_lines unwrap contents)

-- the counts of a file, as a line
abbrev pub counts_text : Summary → List ℕ
counts_text summary =
    codes "packets " ++ decimal summary.whole ++ codes " cut " ++ decimal summary.cut ++ codes " other " ++ decimal summary.other ++ codes "\n"

-- a prefix of the counts was written, if the header was read
abbrev pub TellsCounts : Option ℕ → List ℕ → Option (List ℕ) → Option (List ℕ) → Type 0
TellsCounts unwrap file before after =
    ((summary : Summary) × IsSummary unwrap file summary × AppendsBeginning before after (counts_text summary))
    ⊎ ((fault : HeaderFault) × IsHeaderFault file fault × (after ≡ before))
