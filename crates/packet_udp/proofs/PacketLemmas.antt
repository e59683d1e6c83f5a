-- The fields and the sums of a packet that is made of its headers and its payload.
use Rattle.std.proofs.Common.{◌≡◌, ◌∙◌, ◌+◌, ◌*◌, ◌/◌, ◌%◌, ◌^◌, ◌<◌, ◌≤◌, ◌∷◌, ◌++◌, List, Option, Some, ap, ap₂, append_assoc, arith, drop, length, lit<, refl, subst, sym, take, zero, suc, ℕ}
use Rattle.std.proofs.lemmas.Bool.{le-leb}
use Rattle.std.specs.Int.{byte_at, to_be_bytes, w16, w32}
use Rattle.std.specs.Prelude.{IfSome, option_and_then, option_map}
use Rattle.ipv4_fields.specs.Endpoint.{IsEndpoint}
use Rattle.ipv4_fields.specs.Field.{big_endian_after, bits_from, field_of, ihl_of, number_at}
use Rattle.ipv4_fields.specs.declared.endpoint.Endpoint.{Endpoint}
use Rattle.packet_udp.specs.Packet.{IsUdpPacket}
use Rattle.packet_udp.specs.body.Bytes.{address_sum, ipv4_header, udp_header, word_sum}
use Rattle.packet_udp.specs.body.Checked.{IsIpv4Checksum, IsUdpChecksum, udp_sum}
use Rattle.packet_udp.proofs.SumLemmas.{AreBytes, full_sum}

-- ---- the bytes of a number

byte_at-fits : (i n : ℕ) → byte_at i n < 256
byte_at-fits zero n = omega arith
byte_at-fits (suc i) n = omega arith

half : (n : ℕ) → n < 65536 → byte_at 1 n * 256 + byte_at 0 n ≡ n
half n fits = omega arith

high_half : (n : ℕ) → n < 2 ^ 32 → byte_at 3 n * 256 + byte_at 2 n ≡ n / 2 ^ 16
high_half n fits = omega arith

low_half : (n : ℕ) → byte_at 1 n * 256 + byte_at 0 n ≡ n % 2 ^ 16
low_half n = omega arith

-- the same as `big_endian_after` reads them
two : (n : ℕ) → n < 65536 → (0 * 256 + byte_at 1 n) * 256 + byte_at 0 n ≡ n
two n fits = omega (arith, half n fits)

four : (n : ℕ) → n < 2 ^ 32 → (((0 * 256 + byte_at 3 n) * 256 + byte_at 2 n) * 256 + byte_at 1 n) * 256 + byte_at 0 n ≡ n
four n fits = omega (arith, high_half n fits, low_half n)

number_at-cut : (n place : ℕ) (packet : List ℕ) (value : ℕ) → place + n ≤ length packet → big_endian_after 0 (take n (drop place packet)) ≡ value
    → number_at n packet place ≡ Some value
number_at-cut n place packet value inside same = rw (le-leb (place + n) (length packet) inside) (ap (λ (v : ℕ). Some v) same)

module _ (from to : Endpoint) (payload : List ℕ) (total datagram check udp_check : ℕ) where
  -- the packet
  abbrev pub packed : List ℕ
  packed = ipv4_header from.address to.address total check ++ (udp_header from.port to.port datagram udp_check ++ payload)

  -- what the UDP checksum is made of
  abbrev checked : List ℕ
  checked =
      to_be_bytes w32 from.address ++ (to_be_bytes w32 to.address ++ (0 ∷ (17 ∷ (to_be_bytes w16 datagram ++ (udp_header from.port to.port datagram udp_check ++ payload)))))

  long : length packed ≡ 28 + length payload
  long = omega arith

  field_at : (n place value : ℕ) → place + n ≤ 28 → big_endian_after 0 (take n (drop place packed)) ≡ value → number_at n packed place ≡ Some value
  field_at n place value inside same = number_at-cut n place packed value (omega (arith, long)) same

  first_byte : number_at 1 packed 0 ≡ Some 0x45
  first_byte = field_at 1 0 0x45 (omega arith) refl

  ihl_is : ihl_of packed ≡ Some 5
  ihl_is = ap (λ (byte : Option ℕ). option_map (bits_from 0 4) byte) first_byte

  udp_field : (offset value : ℕ) → offset + 22 ≤ 28 → big_endian_after 0 (take 2 (drop (20 + offset) packed)) ≡ value
      → option_and_then (λ ihl. number_at 2 packed (4 * ihl + offset)) (ihl_of packed) ≡ Some value
  udp_field offset value inside same =
      ap (λ (words : Option ℕ). option_and_then (λ ihl. number_at 2 packed (4 * ihl + offset)) words) ihl_is
      ∙ field_at 2 (20 + offset) value (omega arith) same

  header_bytes : AreBytes (ipv4_header from.address to.address total check)
  header_bytes = (
    lit< tt,
    (
      lit< tt,
      (
        byte_at-fits 1 total,
        (
          byte_at-fits 0 total,
          (
            lit< tt,
            (
              lit< tt,
              (
                lit< tt,
                (
                  lit< tt,
                  (
                    lit< tt,
                    (
                      lit< tt,
                      (
                        byte_at-fits 1 check,
                        (
                          byte_at-fits 0 check,
                          (
                            byte_at-fits 3 from.address,
                            (
                              byte_at-fits 2 from.address,
                              (
                                byte_at-fits 1 from.address,
                                (byte_at-fits 0 from.address, (byte_at-fits 3 to.address, (byte_at-fits 2 to.address, (byte_at-fits 1 to.address, (byte_at-fits 0 to.address, tt))))),
                              ),
                            ),
                          ),
                        ),
                      ),
                    ),
                  ),
                ),
              ),
            ),
          ),
        ),
      ),
    ),
  )

  checked_bytes : AreBytes payload → AreBytes checked
  checked_bytes fit = (
    byte_at-fits 3 from.address,
    (
      byte_at-fits 2 from.address,
      (
        byte_at-fits 1 from.address,
        (
          byte_at-fits 0 from.address,
          (
            byte_at-fits 3 to.address,
            (
              byte_at-fits 2 to.address,
              (
                byte_at-fits 1 to.address,
                (
                  byte_at-fits 0 to.address,
                  (
                    lit< tt,
                    (
                      lit< tt,
                      (
                        byte_at-fits 1 datagram,
                        (
                          byte_at-fits 0 datagram,
                          (
                            byte_at-fits 1 from.port,
                            (
                              byte_at-fits 0 from.port,
                              (
                                byte_at-fits 1 to.port,
                                (byte_at-fits 0 to.port, (byte_at-fits 1 datagram, (byte_at-fits 0 datagram, (byte_at-fits 1 udp_check, (byte_at-fits 0 udp_check, fit))))),
                              ),
                            ),
                          ),
                        ),
                      ),
                    ),
                  ),
                ),
              ),
            ),
          ),
        ),
      ),
    ),
  )

  header_words : word_sum (ipv4_header from.address to.address total check)
      ≡ 0x45 * 256 + 0 + (byte_at 1 total * 256 + byte_at 0 total + (0 * 256 + 0 + (0x40 * 256 + 0 + (64 * 256 + 17 + (byte_at 1 check * 256 + byte_at 0 check
      + (byte_at 3 from.address * 256 + byte_at 2 from.address + (byte_at 1 from.address * 256 + byte_at 0 from.address
      + (byte_at 3 to.address * 256 + byte_at 2 to.address + (byte_at 1 to.address * 256 + byte_at 0 to.address + 0)))))))))
  header_words = refl

  checked_words : word_sum checked
      ≡ byte_at 3 from.address * 256 + byte_at 2 from.address + (byte_at 1 from.address * 256 + byte_at 0 from.address
      + (byte_at 3 to.address * 256 + byte_at 2 to.address + (byte_at 1 to.address * 256 + byte_at 0 to.address
      + (0 * 256 + 17 + (byte_at 1 datagram * 256 + byte_at 0 datagram
      + (byte_at 1 from.port * 256 + byte_at 0 from.port + (byte_at 1 to.port * 256 + byte_at 0 to.port
      + (byte_at 1 datagram * 256 + byte_at 0 datagram + (byte_at 1 udp_check * 256 + byte_at 0 udp_check + word_sum payload)))))))))
  checked_words = refl

  header_sum : IsEndpoint from → IsEndpoint to → total < 65536 → check < 65536
      → word_sum (ipv4_header from.address to.address total check) ≡ 0x4500 + total + 0x4000 + 0x4011 + address_sum from.address + address_sum to.address + check
  header_sum source destination fits fits' =
      let a = half total fits in let b = half check fits' in
      let c = high_half from.address source.address in let d = low_half from.address in
      let e = high_half to.address destination.address in let f = low_half to.address in
      omega (arith, header_words, a, b, c, d, e, f)

  checked_sum : IsEndpoint from → IsEndpoint to → datagram < 65536 → udp_check < 65536
      → word_sum checked ≡ udp_sum from to datagram payload + udp_check
  checked_sum source destination fits fits' =
      let a = half datagram fits in let b = half udp_check fits' in
      let c = high_half from.address source.address in let d = low_half from.address in
      let e = high_half to.address destination.address in let f = low_half to.address in
      let g = half from.port source.port in let h = half to.port destination.port in
      omega (arith, checked_words, a, b, c, d, e, f, g, h)

-- the packet of right checksums is one of UDP
pub packed_is : (from to : Endpoint) (payload : List ℕ) (check udp_check : ℕ) → IsEndpoint from → IsEndpoint to → length payload ≤ 65507 → AreBytes payload
    → IsIpv4Checksum from.address to.address (28 + length payload) check → IsUdpChecksum from to (8 + length payload) payload udp_check
    → IsUdpPacket from to payload (packed from to payload (28 + length payload) (8 + length payload) check udp_check)
unfolding field_of
packed_is from to payload check udp_check source destination short fit checks checks' =
    let total = 28 + length payload in let datagram = 8 + length payload in
    let at = field_at from to payload total datagram check udp_check in
    let udp = udp_field from to payload total datagram check udp_check in
    let packet = packed from to payload total datagram check udp_check in
    let first = first_byte from to payload total datagram check udp_check in
    let fits : total < 65536 = omega arith in let fits' : datagram < 65536 = omega arith in
    let check_at = at 2 10 check (omega arith) (two check (omega (arith, checks.most))) in
    let udp_check_at = at 2 26 udp_check (omega arith) (two udp_check (omega (arith, checks'.most))) in
    record {
      version = ap (λ (byte : Option ℕ). option_map (bits_from 4 4) byte) first;
      ihl = ihl_is from to payload total datagram check udp_check;
      type_of_service = at 1 1 0 (omega arith) refl;
      total_length = at 2 2 total (omega arith) (two total fits);
      identification = at 2 4 0 (omega arith) refl;
      flags = at 1 6 0x40 (omega arith) refl;
      fragment_offset = ap (λ (half : Option ℕ). option_map (bits_from 0 13) half) (at 2 6 0x4000 (omega arith) refl);
      time_to_live = at 1 8 64 (omega arith) refl;
      protocol = at 1 9 17 (omega arith) refl;
      header_sum =
          full_sum (ipv4_header from.address to.address total check) (header_bytes from to payload total datagram check udp_check)
          (ap (λ (n : ℕ). n % 65535) (header_sum from to payload total datagram check udp_check source destination fits (omega (arith, checks.most))) ∙ checks.completes)
          (omega (arith, header_sum from to payload total datagram check udp_check source destination fits (omega (arith, checks.most))));
      header_checksum = subst (λ (f : Option ℕ). IfSome f (λ checksum. checksum < 0xffff)) (sym check_at) checks.most;
      source = at 4 12 from.address (omega arith) (four from.address source.address);
      destination = at 4 16 to.address (omega arith) (four to.address destination.address);
      source_port = udp 0 from.port (omega arith) (two from.port source.port);
      destination_port = udp 2 to.port (omega arith) (two to.port destination.port);
      udp_length = udp 4 datagram (omega arith) (two datagram fits');
      udp_sum =
          full_sum (checked from to payload total datagram check udp_check) (checked_bytes from to payload total datagram check udp_check fit)
          (ap (λ (n : ℕ). n % 65535) (checked_sum from to payload total datagram check udp_check source destination fits' (omega (arith, checks'.most))) ∙ checks'.completes)
          (omega (arith, checked_sum from to payload total datagram check udp_check source destination fits' (omega (arith, checks'.most))));
      udp_checksum = λ none. let same : ◌≡◌ {A = Option ℕ} (Some udp_check) (Some 0) = sym udp_check_at ∙ none in let is : udp_check ≡ 0 = cc in omega (arith, is, checks'.least);
      payload_is = refl;
      whole = long from to payload total datagram check udp_check;
    }

-- the packet as it is put together
pub joined : (from to : Endpoint) (payload packet first second : List ℕ) (total datagram : ℕ) → IsEndpoint from → IsEndpoint to → length payload ≤ 65507
    → AreBytes payload → total ≡ 28 + length payload → datagram ≡ 8 + length payload
    → (check : ℕ) × IsIpv4Checksum from.address to.address total check × (first ≡ ipv4_header from.address to.address total check)
    → (check : ℕ) × IsUdpChecksum from to datagram payload check × (second ≡ udp_header from.port to.port datagram check)
    → packet ≡ (first ++ second) ++ payload → IsUdpPacket from to payload packet
joined from to payload packet first second total datagram source destination short fit total_is datagram_is (check, checks, first_is) (udp_check, checks', second_is) same =
    let whole : packet ≡ packed from to payload (28 + length payload) (8 + length payload) check udp_check =
    same ∙ append_assoc first second payload
    ∙ ap₂ (λ (a b : List ℕ). a ++ (b ++ payload)) (first_is ∙ ap (λ (n : ℕ). ipv4_header from.address to.address n check) total_is)
    (second_is ∙ ap (λ (n : ℕ). udp_header from.port to.port n udp_check) datagram_is) in
    subst (λ (bytes : List ℕ). IsUdpPacket from to payload bytes) (sym whole)
    (packed_is from to payload check udp_check source destination short fit
    (subst (λ (n : ℕ). IsIpv4Checksum from.address to.address n check) total_is checks)
    (subst (λ (n : ℕ). IsUdpChecksum from to n payload udp_check) datagram_is checks'))
