-- What was written at a failure is a beginning of the text of the file.
use Rattle.std.proofs.Common.{◌≡◌, ◌≢◌, ◌∷◌, ◌++◌, ◌∙◌, Err, List, Ok, Option, Result, [], ap, append_assoc, drop, inl, inr, length, refl, subst, sym, take, ℕ}
use Rattle.std.specs.Prelude.{OnErr}
use Rattle.std.proofs.Math.Seq.{take-append_seam, drop-append_seam}
use Rattle.std.proofs.lemmas.Grind.{flat_map-append}
use Rattle.std.specs.List.{flat_map}
use Rattle.command_line.specs.Ending.{AppendsBeginning}
use Rattle.command_line.specs.declared.ending.Failure.{Failure}
use Rattle.command_line.specs.declared.ending.Status.{Status}
use Rattle.command_line.specs.declared.ending.Status.TheVariants.{Done, Refused}
use Rattle.packet_capture.proofs.CaptureLemmas.{AreRecords-more, packets_of-append}
use Rattle.packet_capture.proofs.ContentLemmas.{holds_one}
use Rattle.packet_capture.proofs.LineLemmas.{begins_first, begins_none, begins_then, begins_whole}
use Rattle.packet_capture.proofs.PacketLemmas.{packet_lines-append}
use Rattle.packet_capture.specs.Capture.{AreRecords, IsCapture, IsSummary, packets_of, place_of, printed_packet, with_some}
use Rattle.packet_capture.specs.Content.{IsContent}
use Rattle.packet_capture.specs.Fault.{IsHeaderFault}
use Rattle.packet_capture.specs.Header.{IsFileHeader}
use Rattle.packet_capture.specs.Packets.{WritesBeginning, WritesText, cut_text, header_fault_text, packet_line, packet_lines}
use Rattle.packet_capture.specs.Record.{HasNoRecord, IsRecord}
use Rattle.packet_capture.specs.body.Progress.{BeginsCapture, BeginsRecords, WritesRecords}
use Rattle.packet_capture.specs.declared.Summary.{Summary}
use Rattle.packet_capture.specs.declared.content.Content.{Content}
use Rattle.packet_capture.specs.declared.content.Content.TheVariants.{Cut, Other, Packet}
use Rattle.packet_capture.specs.declared.fault.HeaderFault.{HeaderFault}
use Rattle.packet_capture.specs.declared.header.FileHeader.{FileHeader}
use Rattle.packet_capture.specs.declared.link_type.LinkType.{LinkType}
use Rattle.packet_capture.specs.declared.order.Order.{Order}

-- of a record more a beginning
pub BeginsRecords-more :
    (unwrap : Option ℕ) (header : FileHeader) (bytes rest captured behind : List ℕ) (content : Content) (before between after : Option (List ℕ))
    → WritesRecords unwrap header bytes rest before between
    → IsRecord header.order rest captured behind
    → IsContent header.link_type header.order captured content
    → AppendsBeginning between after (packet_lines unwrap (content ∷ []))
    → BeginsRecords unwrap header bytes before after
BeginsRecords-more unwrap header bytes rest captured behind content before between after so_far is_record is_content begun = record {
  contents = so_far.contents ++ content ∷ [];
  rest = behind;
  are_records = AreRecords-more header bytes rest captured behind so_far.contents content so_far.are_records is_record is_content;
  begun =
      subst (λ (text : List ℕ). AppendsBeginning before after text) (sym (packet_lines-append unwrap so_far.contents (content ∷ [])))
      (begins_then before between after (packet_lines unwrap so_far.contents) (packet_lines unwrap (content ∷ [])) so_far.written begun);
}

-- ---- bytes have one list of records

module _ (order : Order) (bytes one two behind behind' : List ℕ) (first : IsRecord order bytes one behind) (second : IsRecord order bytes two behind') where
  same_length : length one ≡ length two
  same_length = sym first.captured_length ∙ second.captured_length

  same_bytes : one ++ behind ≡ two ++ behind'
  same_bytes = sym first.whole ∙ second.whole

  one_captured : one ≡ two
  one_captured =
      sym (take-append_seam one behind)
      ∙ ap (λ (b : List ℕ). take (length one) b) same_bytes
      ∙ ap (λ (n : ℕ). take n (two ++ behind')) same_length
      ∙ take-append_seam two behind'

  one_behind : behind ≡ behind'
  one_behind =
      sym (drop-append_seam one behind)
      ∙ ap (λ (b : List ℕ). drop (length one) b) same_bytes
      ∙ ap (λ (n : ℕ). drop n (two ++ behind')) same_length
      ∙ drop-append_seam two behind'

one_packet : (unwrap : Option ℕ) (link_type : LinkType) (order : Order) (captured : List ℕ) (a b : Content) → IsContent link_type order captured a → IsContent link_type order captured b
    → packets_of unwrap (a ∷ []) ≡ packets_of unwrap (b ∷ [])
one_packet unwrap link_type order captured (Packet a) (Packet b) is also = ap (λ (packet : List ℕ). with_some (printed_packet unwrap packet) []) ((holds_one link_type order captured).one_packet a.now b.now is also)
one_packet unwrap link_type order captured (Packet a) Cut is also = absurd ((holds_one link_type order captured).packet_not_cut a.now is also)
one_packet unwrap link_type order captured (Packet a) Other is also = absurd ((holds_one link_type order captured).packet_not_other a.now is also)
one_packet unwrap link_type order captured Cut (Packet b) is also = absurd ((holds_one link_type order captured).packet_not_cut b.now also is)
one_packet unwrap link_type order captured Cut Cut is also = refl
one_packet unwrap link_type order captured Cut Other is also = absurd ((holds_one link_type order captured).cut_not_other is also)
one_packet unwrap link_type order captured Other (Packet b) is also = absurd ((holds_one link_type order captured).packet_not_other b.now also is)
one_packet unwrap link_type order captured Other Cut is also = absurd ((holds_one link_type order captured).cut_not_other also is)
one_packet unwrap link_type order captured Other Other is also = refl

-- some first records are a beginning of all
begins_all : (unwrap : Option ℕ) (header : FileHeader) (bytes rest end : List ℕ) (some all : List Content) → AreRecords header bytes some rest → AreRecords header bytes all end
    → HasNoRecord header.order end → (more : List Content) × (packets_of unwrap all ≡ packets_of unwrap some ++ packets_of unwrap more)
begins_all unwrap header bytes rest end [] all are whole no_more = (all, refl)
begins_all unwrap header bytes rest end (content ∷ some) [] (captured, behind, is_record, is_content, are) same no_more =
    absurd (no_more captured behind (subst (λ (b : List ℕ). IsRecord header.order b captured behind) same is_record))
begins_all unwrap header bytes rest end (content ∷ some) (content' ∷ all) (captured, behind, is_record, is_content, are) (captured', behind', is_record', is_content', whole) no_more =
    let same = one_captured header.order bytes captured captured' behind behind' is_record is_record' in
    let next = begins_all unwrap header behind rest end some all are
    (subst (λ (b : List ℕ). AreRecords header b all end) (sym (one_behind header.order bytes captured captured' behind behind' is_record is_record')) whole) no_more in
    let one = one_packet unwrap header.link_type header.order captured content content' is_content
    (subst (λ (c : List ℕ). IsContent header.link_type header.order c content') (sym same) is_content') in (
      next.0,
      packets_of-append unwrap (content' ∷ []) all
          ∙ ap (λ (packets : List (List ℕ)). packets ++ packets_of unwrap all) (sym one)
          ∙ ap (λ (packets : List (List ℕ)). packets_of unwrap (content ∷ []) ++ packets) next.1
          ∙ sym (append_assoc (packets_of unwrap (content ∷ [])) (packets_of unwrap some) (packets_of unwrap next.0))
          ∙ ap (λ (packets : List (List ℕ)). packets ++ packets_of unwrap next.0) (sym (packets_of-append unwrap (content ∷ []) some)),
    )

-- ---- a beginning of the text

-- a beginning of the lines of all packets
lines_begun : (unwrap : Option ℕ) (file : List ℕ) (header : FileHeader) (contents : List Content) (rest : List ℕ) (before after : Option (List ℕ))
    → IsCapture file header contents rest → AppendsBeginning before after (packet_lines unwrap contents) → WritesBeginning unwrap file before after
lines_begun unwrap file header contents [] before after capture begun = record {
  status = Done;
  text = packet_lines unwrap contents;
  text_is = record { header = header; contents = contents; is_capture = capture; text_is = refl };
  begun = begun;
}
lines_begun unwrap file header contents (byte ∷ rest) before after capture begun = record {
  status = Refused;
  text = packet_lines unwrap contents ++ cut_text (place_of file (byte ∷ rest));
  text_is = inl (record { header = header; contents = contents; rest = byte ∷ rest; is_capture = capture; is_cut = λ none. cc; text_is = refl });
  begun = begins_first before after (packet_lines unwrap contents) (cut_text (place_of file (byte ∷ rest))) begun;
}

-- of a file that is read
pub text_begun : (unwrap : Option ℕ) (file : List ℕ) (summary : Summary) (before after : Option (List ℕ)) → IsSummary unwrap file summary → BeginsCapture unwrap summary.header file before after
    → WritesBeginning unwrap file before after
text_begun unwrap file summary before after is (inr begun) = begun
text_begun unwrap file summary before after is (inl some) =
    let more = begins_all unwrap summary.header (drop 24 file) some.rest is.rest some.contents is.contents some.are_records is.is_capture.are_records is.is_capture.no_more in
    lines_begun unwrap file summary.header is.contents is.rest before after is.is_capture
    (subst (λ (text : List ℕ). AppendsBeginning before after text)
    (sym (ap (λ (packets : List (List ℕ)). flat_map packet_line packets) more.1 ∙ flat_map-append packet_line (packets_of unwrap some.contents) (packets_of unwrap more.0)))
    (begins_first before after (packet_lines unwrap some.contents) (packet_lines unwrap more.0) some.begun))

-- of which nothing was written
pub nothing_begun : (unwrap : Option ℕ) (file : List ℕ) (summary : Summary) (known : Option (List ℕ)) → IsSummary unwrap file summary → WritesBeginning unwrap file known known
nothing_begun unwrap file summary known is = lines_begun unwrap file summary.header is.contents is.rest known known is.is_capture (begins_none known (packet_lines unwrap is.contents))

-- all packets were written, and a beginning of the refusal
pub cut_begun : (unwrap : Option ℕ) (file : List ℕ) (header : FileHeader) (rest : List ℕ) (before between after : Option (List ℕ)) → IsFileHeader file header
    → WritesRecords unwrap header (drop 24 file) rest before between → HasNoRecord header.order rest → rest ≢ []
    → AppendsBeginning between after (cut_text (place_of file rest)) → WritesBeginning unwrap file before after
cut_begun unwrap file header rest before between after is_header written no_more more begun = record {
  status = Refused;
  text = packet_lines unwrap written.contents ++ cut_text (place_of file rest);
  text_is = inl (record {
    header = header;
    contents = written.contents;
    rest = rest;
    is_capture = record { is_header = is_header; are_records = written.are_records; no_more = no_more };
    is_cut = more;
    text_is = refl;
  });
  begun = begins_then before between after (packet_lines unwrap written.contents) (cut_text (place_of file rest)) written.written begun;
}

-- the whole text was written
pub whole_begun : (unwrap : Option ℕ) (file : List ℕ) (status : Status) (before after : Option (List ℕ)) → WritesText unwrap file status before after → WritesBeginning unwrap file before after
whole_begun unwrap file status before after written =
    record { status = status; text = written.text; text_is = written.text_is; begun = begins_whole before after written.text written.written }

-- a beginning of the refusal of its header was
pub fault_begun : (unwrap : Option ℕ) (file : List ℕ) (fault : HeaderFault) (before after : Option (List ℕ)) (result : Result Status Failure) → IsHeaderFault file fault
    → OnErr result (AppendsBeginning before after (header_fault_text fault ++ 10 ∷ [])) → OnErr result (WritesBeginning unwrap file before after)
fault_begun unwrap file fault before after (Ok status) is begun = tt
fault_begun unwrap file fault before after (Err failure) is begun =
    record { status = Refused; text = header_fault_text fault ++ 10 ∷ []; text_is = inr (record { fault = fault; is_fault = is; text_is = refl }); begun = begun }
