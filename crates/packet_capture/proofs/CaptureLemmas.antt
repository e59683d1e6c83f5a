-- One record more: what was read of a file so far, and what is read of the next record.
use Rattle.std.proofs.Common.{◌≡◌, ◌≢◌, ◌+◌, ◌-◌, ◌≤◌, ◌∷◌, ◌++◌, ◌∙◌, Bool, List, None, Option, Some, [], ap, arith, cond, drop, false, is_some, length, length-append, length-drop, refl, subst, suc, sym, take, true, zero-add, ℕ}
use Rattle.std.proofs.Math.Seq.{take-length}
use Rattle.packet_capture.specs.declared.content.Content.{Content}
use Rattle.packet_capture.specs.declared.content.Content.TheVariants.{Cut, Other, Packet}
use Rattle.packet_capture.specs.declared.header.FileHeader.{FileHeader}
use Rattle.packet_capture.specs.declared.order.Order.{Order}
use Rattle.packet_capture.specs.declared.Summary.{Summary}
use Rattle.packet_capture.specs.Capture.{AreRecords, IsCapture, IsSummary, cuts_of, others_of, packets_of, place_of, printed_packet, with_some}
use Rattle.packet_capture.specs.Content.{IsContent}
use Rattle.packet_capture.specs.Header.{IsFileHeader}
use Rattle.packet_capture.specs.Record.{HasNoRecord, IsRecord}
use Rattle.packet_capture.specs.body.Progress.{CountsOne, IsCounted}

pub AreRecords-more :
    (header : FileHeader) (bytes rest captured behind : List ℕ) (contents : List Content) (content : Content)
    → AreRecords header bytes contents rest
    → IsRecord header.order rest captured behind
    → IsContent header.link_type header.order captured content
    → AreRecords header bytes (contents ++ content ∷ []) behind
AreRecords-more header bytes rest captured behind [] content are is_record is_content =
    (captured, behind, subst (λ (b : List ℕ). IsRecord header.order b captured behind) (sym are) is_record, is_content, refl)
AreRecords-more header bytes rest captured behind (first ∷ contents) content (c, b, r, k, are) is_record is_content =
    (c, b, r, k, AreRecords-more header b rest captured behind contents content are is_record is_content)

with_some-append : (first : Option (List ℕ)) (a b : List (List ℕ)) → with_some first (a ++ b) ≡ with_some first a ++ b
with_some-append None a b = refl
with_some-append (Some packet) a b = refl

pub packets_of-append : (unwrap : Option ℕ) (a b : List Content) → packets_of unwrap (a ++ b) ≡ packets_of unwrap a ++ packets_of unwrap b
packets_of-append unwrap [] b = refl
packets_of-append unwrap (Packet packet ∷ a) b =
    ap (λ (rest : List (List ℕ)). with_some (printed_packet unwrap packet.now) rest) (packets_of-append unwrap a b)
    ∙ with_some-append (printed_packet unwrap packet.now) (packets_of unwrap a) (packets_of unwrap b)
packets_of-append unwrap (Cut ∷ a) b = packets_of-append unwrap a b
packets_of-append unwrap (Other ∷ a) b = packets_of-append unwrap a b

cuts_of-append : (a b : List Content) → cuts_of (a ++ b) ≡ cuts_of a + cuts_of b
cuts_of-append [] b = sym (zero-add (cuts_of b))
cuts_of-append (Packet packet ∷ a) b = cuts_of-append a b
cuts_of-append (Cut ∷ a) b = omega (arith, cuts_of-append a b)
cuts_of-append (Other ∷ a) b = cuts_of-append a b

others-more : (printed : Bool) (all some more : ℕ) → all ≡ some + more → cond printed all (suc all) ≡ cond printed some (suc some) + more
others-more true all some more same = same
others-more false all some more same = omega (arith, same)

others_of-append : (unwrap : Option ℕ) (a b : List Content) → others_of unwrap (a ++ b) ≡ others_of unwrap a + others_of unwrap b
others_of-append unwrap [] b = sym (zero-add (others_of unwrap b))
others_of-append unwrap (Packet packet ∷ a) b =
    others-more (is_some (printed_packet unwrap packet.now)) (others_of unwrap (a ++ b)) (others_of unwrap a) (others_of unwrap b) (others_of-append unwrap a b)
others_of-append unwrap (Cut ∷ a) b = others_of-append unwrap a b
others_of-append unwrap (Other ∷ a) b = omega (arith, others_of-append unwrap a b)

pub IsCounted-more :
    (unwrap : Option ℕ) (header : FileHeader) (bytes rest captured behind : List ℕ) (content : Content) (before after : Summary)
    → IsCounted unwrap header bytes before rest
    → IsRecord header.order rest captured behind
    → IsContent header.link_type header.order captured content
    → CountsOne unwrap content before after
    → IsCounted unwrap header bytes after behind
IsCounted-more unwrap header bytes rest captured behind content before after counted is_record is_content one = record {
  contents = counted.contents ++ content ∷ [];
  are_records = AreRecords-more header bytes rest captured behind counted.contents content counted.are_records is_record is_content;
  whole = rw (packets_of-append unwrap counted.contents (content ∷ []), length-append (packets_of unwrap counted.contents) (packets_of unwrap (content ∷ []))) (one.whole ∙ ap (λ (n : ℕ). n + length (packets_of unwrap (content ∷ []))) counted.whole);
  cut = one.cut ∙ ap (λ (n : ℕ). n + cuts_of (content ∷ [])) counted.cut ∙ sym (cuts_of-append counted.contents (content ∷ []));
  other = one.other ∙ ap (λ (n : ℕ). n + others_of unwrap (content ∷ [])) counted.other ∙ sym (others_of-append unwrap counted.contents (content ∷ []));
}

-- a record has a header, so what is left is shorter
pub IsRecord-shorter :
    (order : Order) (bytes captured rest : List ℕ) → IsRecord order bytes captured rest → length rest + 16 ≤ length bytes
IsRecord-shorter order bytes captured rest is =
    omega (arith, is.complete, ap length is.whole, length-drop 16 bytes, length-append captured rest)

one_printed : (printed : Option (List ℕ)) → length (with_some printed []) + cond (is_some printed) 0 1 ≡ 1
one_printed None = refl
one_printed (Some packet) = refl

-- a record more is one more of all that is counted
pub CountsOne-sum :
    (unwrap : Option ℕ) (content : Content) (before after : Summary)
    → CountsOne unwrap content before after
    → after.whole + after.cut + after.other ≡ before.whole + before.cut + before.other + 1
CountsOne-sum unwrap (Packet packet) before after one = omega (arith, one.whole, one.cut, one.other, one_printed (printed_packet unwrap packet.now))
CountsOne-sum unwrap Cut before after one = omega (arith, one.whole, one.cut, one.other)
CountsOne-sum unwrap Other before after one = omega (arith, one.whole, one.cut, one.other)

-- what the records take is not left
pub AreRecords-shorter :
    (header : FileHeader) (bytes rest : List ℕ) (contents : List Content) → AreRecords header bytes contents rest → length rest ≤ length bytes
AreRecords-shorter header bytes rest [] are = omega (arith, ap length are)
AreRecords-shorter header bytes rest (content ∷ contents) (captured, behind, is_record, is_content, are) =
    omega (arith, AreRecords-shorter header behind rest contents are, IsRecord-shorter header.order bytes captured behind is_record)

pub place_of-none : (file rest : List ℕ) → length rest ≡ 0 → place_of file rest ≡ None
place_of-none file [] empty = refl
place_of-none file (byte ∷ rest) empty = absurd (omega arith)

pub place_of-some : (file rest : List ℕ) → rest ≢ [] → place_of file rest ≡ Some (length file - length rest)
place_of-some file [] more = absurd (more refl)
place_of-some file (byte ∷ rest) more = refl

-- a slice from the header on has all that stands behind it
pub behind_header : (P : List ℕ → Type 0) (file : List ℕ) → P (take (length file - 24) (drop 24 file)) → P (drop 24 file)
behind_header P file holds = subst P (ap (λ (n : ℕ). take n (drop 24 file)) (sym (length-drop 24 file)) ∙ take-length (drop 24 file)) holds

pub summary_of :
    (unwrap : Option ℕ) (file rest : List ℕ) (header : FileHeader) (counts : Summary) (cut_at : Option ℕ)
    → IsFileHeader file header
    → counts.header ≡ header
    → IsCounted unwrap header (drop 24 file) counts rest
    → HasNoRecord header.order rest
    → cut_at ≡ place_of file rest
    → IsSummary unwrap file (record counts { cut_at = cut_at })
summary_of unwrap file rest header counts cut_at is_header same counted no_more place = record {
  contents = counted.contents;
  rest = rest;
  is_capture = subst (λ (h : FileHeader). IsCapture file h counted.contents rest) (sym same) (record { is_header = is_header; are_records = counted.are_records; no_more = no_more });
  whole = counted.whole;
  cut = counted.cut;
  other = counted.other;
  cut_at = place;
}
