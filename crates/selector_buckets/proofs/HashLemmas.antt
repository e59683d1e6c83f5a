-- The instructions of the hash: what they leave in A, and that they have no fault.
use Rattle.std.proofs.Common.{◌≡◌, ◌∙◌, ◌+◌, ◌*◌, ◌%◌, ◌^◌, ◌≤◌, ◌++◌, ◌∷◌, List, None, Some, [], ap, arith, cond, drop, length, option_and_then, option_map, refl, sym, take, unwrap_or, ℕ}
use Rattle.std.specs.Prelude.{nat_le}
use Rattle.bpf_insn.specs.declared.instruction.Insn.{Insn}
use Rattle.bpf_insn.specs.declared.instruction.Insn.TheVariants.{Alu, CopyToX, LoadAbsolute, LoadIndexed, LoadXHeader}
use Rattle.bpf_insn.specs.declared.instruction.Operand.TheVariants.{K, X}
use Rattle.bpf_insn.specs.declared.instruction.Operation.TheVariants.{Add, Mul}
use Rattle.bpf_insn.specs.declared.instruction.Size.{Size}
use Rattle.bpf_insn.specs.declared.instruction.Size.TheVariants.{Byte, Half, Word}
use Rattle.bpf_insn.specs.Word.{FieldsFit, word_of}
use Rattle.bpf_insn.proofs.WordLemmas.{instruction_of-word_of}
use Rattle.bpf_verify.specs.Accepted.{instruction_fault}
use Rattle.bpf_verify.specs.Path.{Loads}
use Rattle.bpf_machine.specs.Meaning.{header_length, mean, no_cells}
use Rattle.bpf_machine.specs.Packet.{big_endian_after, byte_count, packet_number}
use Rattle.ipv4_fields.specs.declared.header.Field.TheVariants.{Source, SourcePort}
use Rattle.ipv4_fields.specs.Field as fields
use Rattle.ipv4_fields.specs.Field.{behind_header, bits_from, field_of, number_at}
use Rattle.ipv4_fields.specs.Dispatchable.{IsDispatchable, field_value}
use Rattle.ipv4_fields.proofs.FieldLemmas.{header_field, port_field, some_value}
use Rattle.selector_buckets.specs.declared.TheConstants.{MULTIPLIER}
use Rattle.selector_buckets.specs.declared.hash.HashBy.{HashBy}
use Rattle.selector_buckets.specs.declared.hash.HashBy.TheVariants.{Addresses, Both, Ports}
use Rattle.selector_buckets.specs.Hash.{hash_of, mixed}
use Rattle.selector_buckets.specs.Words.{hash_words, multiply_words, port_words}
use Rattle.selector_buckets.proofs.PartLemmas.{IsPart, part_cons}
use Rattle.selector_buckets.proofs.StepLemmas.{load_first, load_header_first, load_indexed_first, mean_first}

-- ---- numbers of the packet

same_number : (n : ℕ) (bytes : List ℕ) → big_endian_after n bytes ≡ fields.big_endian_after n bytes
same_number n [] = refl
same_number n (byte ∷ bytes) = same_number (n * 256 + byte) bytes

packet_number-number_at : (packet : List ℕ) (size : Size) (place : ℕ) → packet_number packet size place ≡ number_at (byte_count size) packet place
packet_number-number_at packet size place =
    ap (λ (n : ℕ). cond (nat_le (place + byte_count size) (length packet)) (Some n) None) (same_number 0 (take (byte_count size) (drop place packet)))

module _ (packet : List ℕ) (dispatched : IsDispatchable packet) where
  source_there : packet_number packet Word 12 ≡ Some (field_value Source packet)
  unfolding field_of
  source_there = packet_number-number_at packet Word 12 ∙ some_value (number_at 4 packet 12) (header_field 4 12 packet dispatched.has_header (omega arith))

  abbrev first_byte : ℕ
  first_byte = unwrap_or (number_at 1 packet 0) 0

  first_there : number_at 1 packet 0 ≡ Some first_byte
  first_there = some_value (number_at 1 packet 0) (header_field 1 0 packet dispatched.has_header (omega arith))

  header_there : header_length (packet_number packet Byte 0) ≡ Some (4 * (first_byte % 16))
  header_there = ap header_length (packet_number-number_at packet Byte 0 ∙ first_there)

  behind_there : behind_header packet 0 ≡ number_at 2 packet (4 * (first_byte % 16) + 0)
  behind_there =
      let low : bits_from 0 4 first_byte ≡ first_byte % 16 = omega arith in
      ap (λ o. option_and_then (λ ihl. number_at 2 packet (4 * ihl + 0)) (option_map (bits_from 0 4) o)) first_there ∙ ap (λ ihl. number_at 2 packet (4 * ihl + 0)) low

  port_there : packet_number packet Half (4 * (first_byte % 16) + 0) ≡ Some (field_value SourcePort packet)
  unfolding field_of
  port_there =
      packet_number-number_at packet Half (4 * (first_byte % 16) + 0)
      ∙ sym behind_there
      ∙ some_value (behind_header packet 0) (port_field packet 0 dispatched (omega arith))

  -- ---- what A is after the words of the hash

  multiplied : (rest : List ℕ) (a x : ℕ) → mean (multiply_words ++ rest) a x no_cells packet ≡ mean rest (mixed a) x no_cells packet
  multiplied rest a x = mean_first (Alu Mul (K MULTIPLIER)) rest a x no_cells packet (omega arith)

  port_loaded : (rest : List ℕ) → mean (port_words ++ rest) 0 0 no_cells packet ≡ mean rest (field_value SourcePort packet) (4 * (first_byte % 16)) no_cells packet
  port_loaded rest =
      load_header_first (word_of (LoadIndexed Half 0) ∷ rest) packet 0 0 no_cells (4 * (first_byte % 16)) header_there
      ∙ load_indexed_first rest packet 0 (4 * (first_byte % 16)) no_cells Half (field_value SourcePort packet) port_there

  pub hashed : (by : HashBy) (rest : List ℕ) → (x : ℕ) × (mean (hash_words by ++ rest) 0 0 no_cells packet ≡ mean rest (hash_of by packet) x no_cells packet)
  hashed Addresses rest = (
    0,
    load_first (multiply_words ++ rest) packet 0 0 no_cells Word 12 (field_value Source packet) (omega arith) source_there ∙ multiplied rest (field_value Source packet) 0,
  )
  hashed Ports rest = (4 * (first_byte % 16), port_loaded (multiply_words ++ rest) ∙ multiplied rest (field_value SourcePort packet) (4 * (first_byte % 16)))
  hashed Both rest =
      let port = field_value SourcePort packet in
      let source = field_value Source packet in
      let x = 4 * (first_byte % 16) in (
        mixed port,
        port_loaded (multiply_words ++ (word_of CopyToX ∷ word_of (LoadAbsolute Word 12) ∷ word_of (Alu Add X) ∷ (multiply_words ++ rest)))
            ∙ multiplied (word_of CopyToX ∷ word_of (LoadAbsolute Word 12) ∷ word_of (Alu Add X) ∷ (multiply_words ++ rest)) port x
            ∙ mean_first CopyToX (word_of (LoadAbsolute Word 12) ∷ word_of (Alu Add X) ∷ (multiply_words ++ rest)) (mixed port) x no_cells packet tt
            ∙ load_first (word_of (Alu Add X) ∷ (multiply_words ++ rest)) packet (mixed port) (mixed port) no_cells Word 12 source (omega arith) source_there
            ∙ mean_first (Alu Add X) (multiply_words ++ rest) source (mixed port) no_cells packet tt
            ∙ multiplied rest ((source + mixed port) % 2 ^ 32) (mixed port),
      )

-- ---- no fault

plain_cons : (insn : Insn) (words : List ℕ) → FieldsFit insn → ((len pc : ℕ) → instruction_fault len pc insn ≡ None) → ((cell : ℕ) → Loads insn cell → ⊥) → IsPart words → IsPart (word_of insn ∷ words)
plain_cons insn words fits none loads part =
    part_cons (word_of insn) insn words (instruction_of-word_of insn fits) (λ len before inside. none len (before + 0), loads) part

multiply_part : (words : List ℕ) → IsPart words → IsPart (multiply_words ++ words)
multiply_part words part = plain_cons (Alu Mul (K MULTIPLIER)) words (omega arith) (λ len pc. refl) (λ cell none. none) part

source_part : (words : List ℕ) → IsPart words → IsPart (word_of (LoadAbsolute Word 12) ∷ words)
source_part words part = plain_cons (LoadAbsolute Word 12) words (omega arith) (λ len pc. refl) (λ cell none. none) part

port_part : (words : List ℕ) → IsPart words → IsPart (port_words ++ words)
port_part words part =
    plain_cons (LoadXHeader 0) (word_of (LoadIndexed Half 0) ∷ words) (omega arith) (λ len pc. refl) (λ cell none. none)
    (plain_cons (LoadIndexed Half 0) words (omega arith) (λ len pc. refl) (λ cell none. none) part)

pub hash_part : (by : HashBy) (words : List ℕ) → IsPart words → IsPart (hash_words by ++ words)
hash_part Addresses words part = source_part (multiply_words ++ words) (multiply_part words part)
hash_part Ports words part = port_part (multiply_words ++ words) (multiply_part words part)
hash_part Both words part =
    port_part (multiply_words ++ (word_of CopyToX ∷ word_of (LoadAbsolute Word 12) ∷ word_of (Alu Add X) ∷ (multiply_words ++ words)))
    (multiply_part (word_of CopyToX ∷ word_of (LoadAbsolute Word 12) ∷ word_of (Alu Add X) ∷ (multiply_words ++ words))
    (plain_cons CopyToX (word_of (LoadAbsolute Word 12) ∷ word_of (Alu Add X) ∷ (multiply_words ++ words)) tt (λ len pc. refl) (λ cell none. none)
    (source_part (word_of (Alu Add X) ∷ (multiply_words ++ words))
    (plain_cons (Alu Add X) (multiply_words ++ words) tt (λ len pc. refl) (λ cell none. none) (multiply_part words part)))))

pub few_hash_words : (by : HashBy) → length (hash_words by) ≤ 7
few_hash_words Addresses = omega arith
few_hash_words Ports = omega arith
few_hash_words Both = omega arith
