-- What a line that judges is answered, by what its digits write.
use Rattle.std.proofs.Common.{◌≡◌, ◌∙◌, ◌*◌, ◌/◌, ◌%◌, ◌<◌, ◌≤◌, Bool, Err, List, None, Ok, Option, Result, Some, ap, arith, cond, false, is_some, length, nat_le, nat_lt, refl, sym, true, unwrap_or, ℕ}
use Rattle.std.specs.List.{AllPass, list_all}
use Rattle.std.proofs.lemmas.List.Sums.{AllPass-from_list_all, list_all-from_AllPass}
use Rattle.std.proofs.lemmas.Bool.{le-leb, lt-leb, lt-ltb}
use Rattle.bpf_machine.specs.declared.TheConstants.{MAX_PACKET}
use Rattle.hex.specs.Hex.{decode_of, hex_digit_value, is_hex_digit}
use Rattle.hex.specs.declared.error.FromHexError.{FromHexError}
use Rattle.hex.proofs.HexLemmas.{decode_of-digits, decode_of-odd, decode_of-ok}
use Rattle.bpf_verify.specs.Program.{ProgramValue}
use Rattle.config_image.specs.Image.{Group}
use Rattle.packet_verdict.specs.Malformed.{malformation_of}
use Rattle.packet_verdict.specs.Verdict.{value_of, verdict}
use Rattle.control_line.specs.Packet.{digit_worth}
use Rattle.control_line.specs.Reading.{judged_answer, packet_answer}
use Rattle.control_line.specs.declared.reason.Reason.TheVariants.{BadForm, PacketTooLong}
use Rattle.control_line.specs.declared.reply.LineAnswer.{LineAnswer}
use Rattle.control_line.specs.declared.reply.LineAnswer.TheVariants.{Refused}
use Rattle.control_line.proofs.PacketLemmas.{value_small}

-- ---- digits

is_digit_by : (value : Option ℕ) → ((v : ℕ) → value ≡ Some v → v < 16) → nat_lt (unwrap_or value 16) 16 ≡ is_some value
is_digit_by None small = refl
is_digit_by (Some v) small = lt-ltb v 16 (small v refl)

pub is_digit : (byte : ℕ) → nat_lt (digit_worth byte) 16 ≡ is_hex_digit byte
is_digit byte = is_digit_by (hex_digit_value byte) (value_small byte)

-- ---- answers

when : (test : Bool) (answer : LineAnswer) → test ≡ true → answer ≡ cond test answer (Refused PacketTooLong)
when test answer is = rw is refl

unless : (test : Bool) (answer : LineAnswer) → test ≡ false → Refused PacketTooLong ≡ cond test answer (Refused PacketTooLong)
unless test answer is = rw is refl

module _ (version : ℕ) (config : List Group) (digits : List ℕ) where
  abbrev answer_to : Result (List ℕ) FromHexError → LineAnswer
  answer_to decoded = packet_answer (λ (program : ProgramValue). program.words) version config decoded

  pub odd_is_bad : length digits % 2 ≡ 1 → Refused BadForm ≡ answer_to (decode_of digits)
  odd_is_bad odd = sym (ap answer_to (decode_of-odd digits odd))

  pub bad_digit_is_bad : (AllPass is_hex_digit digits → ⊥) → Refused BadForm ≡ answer_to (decode_of digits)
  bad_digit_is_bad bad = by_decoded (decode_of digits) refl
    where
      by_decoded : (decoded : Result (List ℕ) FromHexError) → decode_of digits ≡ decoded → Refused BadForm ≡ answer_to decoded
      by_decoded (Err fault) is = refl
      by_decoded (Ok packet) is = absurd (bad (decode_of-ok digits packet is).1)

  pub packet_is_judged : (packet : List ℕ) → decode_of digits ≡ Ok packet → length packet ≤ MAX_PACKET →
      judged_answer version (malformation_of packet) (verdict value_of config packet) ≡ answer_to (decode_of digits)
  packet_is_judged packet is short =
      when (nat_le (length packet) MAX_PACKET) (judged_answer version (malformation_of packet) (verdict value_of config packet)) (le-leb (length packet) MAX_PACKET short)
      ∙ sym (ap answer_to is)

  pub too_long_is_refused : length digits % 2 ≡ 0 → AllPass is_hex_digit digits → MAX_PACKET < length digits / 2 → Refused PacketTooLong ≡ answer_to (decode_of digits)
  too_long_is_refused even all long =
      let (packet, is) = decode_of-digits digits even all in
      let size = (decode_of-ok digits packet is).2 in
      unless (nat_le (length packet) MAX_PACKET) (judged_answer version (malformation_of packet) (verdict value_of config packet)) (lt-leb (length packet) MAX_PACKET (omega arith))
      ∙ sym (ap answer_to is)

  -- the same, as the steps of the line find it
  pub pairs_are_judged : (packet : List ℕ) → decode_of digits ≡ Ok packet → length digits ≤ 2 * MAX_PACKET →
      judged_answer version (malformation_of packet) (verdict value_of config packet) ≡ answer_to (decode_of digits)
  pairs_are_judged packet is short = let size = (decode_of-ok digits packet is).2 in packet_is_judged packet is (omega arith)

  pub long_is_bad : list_all is_hex_digit digits ≡ false → Refused BadForm ≡ answer_to (decode_of digits)
  long_is_bad bad = bad_digit_is_bad (λ all. let good = list_all-from_AllPass is_hex_digit digits all in cc)

  pub long_is_refused : length digits % 2 ≡ 0 → list_all is_hex_digit digits ≡ true → MAX_PACKET < length digits / 2 → Refused PacketTooLong ≡ answer_to (decode_of digits)
  long_is_refused even all long = too_long_is_refused even (AllPass-from_list_all is_hex_digit digits all) long
