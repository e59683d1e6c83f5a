-- A packet at the front of bytes, and that a record holds one thing.
use Rattle.std.proofs.Common.{◌≡◌, ◌∙◌, ◌<◌, ◌≤◌, ◌++◌, List, Some, ap, arith, length, length-append, subst, sym, take, drop, ℕ}
use Rattle.std.proofs.Math.Seq.{take-append_seam}
use Rattle.std.proofs.lemmas.List.{length-take-le, take-append-drop}
use Rattle.std.specs.Prelude.{IfSome}
use Rattle.ipv4_fields.specs.Field.{field_of}
use Rattle.ipv4_fields.specs.declared.header.Field.TheVariants.{TotalLength}
use Rattle.packet_capture.specs.declared.link_type.LinkType.{LinkType}
use Rattle.packet_capture.specs.declared.order.Order.{Order}
use Rattle.packet_capture.specs.Content.{HasOneContent}
use Rattle.packet_capture.specs.LinkLayer.{behind_link_header}
use Rattle.packet_capture.specs.Packet.{BeginsWithPacket, IsCutPacket, IsIpv4SoFar}

pub BeginsWithPacket-take :
    (bytes : List ℕ) (total : ℕ) → IsIpv4SoFar bytes → field_of TotalLength bytes ≡ Some total → total ≤ length bytes
    → BeginsWithPacket bytes (take total bytes)
BeginsWithPacket-take bytes total is_ipv4 is inside = record {
  is_ipv4 = is_ipv4;
  total_length = is ∙ ap (λ (n : ℕ). Some n) (sym (length-take-le total bytes inside));
  padding = drop total bytes;
  whole = sym (take-append-drop total bytes);
}

front_is : (bytes packet padding : List ℕ) → bytes ≡ packet ++ padding → packet ≡ take (length packet) bytes
front_is bytes packet padding whole = sym (take-append_seam packet padding) ∙ ap (λ (b : List ℕ). take (length packet) b) (sym whole)

one_front : (bytes a b : List ℕ) → BeginsWithPacket bytes a → BeginsWithPacket bytes b → a ≡ b
one_front bytes a b first second =
    let same : length a ≡ length b = cc (first.total_length, second.total_length) in
    front_is bytes a first.padding first.whole
    ∙ ap (λ (n : ℕ). take n bytes) same
    ∙ sym (front_is bytes b second.padding second.whole)

whole_not_cut : (bytes packet : List ℕ) → BeginsWithPacket bytes packet → IsCutPacket bytes → ⊥
whole_not_cut bytes packet begins cut =
    let short : length bytes < length packet = subst (λ f. IfSome f (λ total. length bytes < total)) begins.total_length cut.cut in
    omega (arith, ap length begins.whole, length-append packet begins.padding)

pub holds_one : (link_type : LinkType) (order : Order) (captured : List ℕ) → HasOneContent link_type order captured
holds_one link_type order captured = record {
  one_packet = λ a b first second. one_front (behind_link_header link_type captured) a b first.begins second.begins;
  packet_not_cut = λ packet holds cut. whole_not_cut (behind_link_header link_type captured) packet holds.begins cut.ends;
  packet_not_other = λ packet holds other. other holds.protocol holds.begins.is_ipv4;
  cut_not_other = λ cut other. other cut.protocol cut.ends.is_ipv4;
}
