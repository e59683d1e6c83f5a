-- Worked sums and packets, so that a slip in a definition does not check.
use Rattle.std.specs.Prelude.{◌≡◌, ◌∷◌, List, None, Some, [], codes, refl, ℕ}
use Rattle.ipv4_fields.specs.Dispatchable.{is_dispatchable}
use Rattle.ipv4_fields.specs.Field.{field_of}
use Rattle.packet_udp.specs.Checksum.{ones_complement_add, ones_complement_sum}
use Rattle.packet_udp.specs.Packet.{pseudo_header}
use Rattle.packet_udp.specs.Payload.{payload_to}

-- RFC 1071, section 3: the words 0001, f203, f4f5 and f6f7
worked_sum : ones_complement_sum (0x00 ∷ 0x01 ∷ 0xf2 ∷ 0x03 ∷ 0xf4 ∷ 0xf5 ∷ 0xf6 ∷ 0xf7 ∷ []) ≡ 0xddf2
worked_sum = refl

carry_is_put_back : ones_complement_add 0xffff 0x0001 ≡ 0x0001
carry_is_put_back = refl

odd_byte_is_padded : ones_complement_sum (0x12 ∷ 0x34 ∷ 0x56 ∷ []) ≡ 0x6834
odd_byte_is_padded = refl

-- UDP from 10.0.0.1:5000 to 10.0.0.2:53 with the payload `a`, with its checksums
abbrev sample : List ℕ
sample =
    0x45 ∷ 0x00 ∷ 0x00 ∷ 0x1d ∷ 0x00 ∷ 0x00 ∷ 0x40 ∷ 0x00 ∷ 0x40 ∷ 0x11 ∷ 0x26 ∷ 0xce ∷ 0x0a ∷ 0x00 ∷ 0x00 ∷ 0x01
    ∷ 0x0a ∷ 0x00 ∷ 0x00 ∷ 0x02 ∷ 0x13 ∷ 0x88 ∷ 0x00 ∷ 0x35 ∷ 0x00 ∷ 0x09 ∷ 0x77 ∷ 0x1c ∷ 0x61 ∷ []

sample_pseudo_header : pseudo_header sample ≡ 0x0a ∷ 0x00 ∷ 0x00 ∷ 0x01 ∷ 0x0a ∷ 0x00 ∷ 0x00 ∷ 0x02 ∷ 0x00 ∷ 0x11 ∷ 0x00 ∷ 0x09 ∷ []
sample_pseudo_header = refl

sample_payload : payload_to 53 sample ≡ Some (codes "a")
unfolding is_dispatchable field_of
sample_payload = refl

no_payload_to_another_port : payload_to 5000 sample ≡ None
unfolding is_dispatchable field_of
no_payload_to_another_port = refl
