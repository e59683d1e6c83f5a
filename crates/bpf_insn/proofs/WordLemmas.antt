-- Words and instructions: each is read back from the other.
use Rattle.std.proofs.Common.{◌≡◌, ◌==◌, ◌∙◌, ◌+◌, ◌/◌, ◌^◌, ◌<◌, Bool, Err, IfOk, IsNone, IsOk, IsSome, List, None, Ok, Option, Result, Some, [], ap, arith, bit_and, cond, false, refl, subst, sym, true, ◌∷◌, ◌↔◌, ℕ}
use Rattle.std.specs.Int.{from_be_bytes, to_be_bytes, w64}
use Rattle.std.proofs.lemmas.Bool.{eqb-true}
use Rattle.std.proofs.lemmas.Nat.{and_mask, from_be_bytes-to_be_bytes_8}
use Rattle.bpf_insn.specs.declared.instruction.Insn.{Insn}
use Rattle.bpf_insn.specs.declared.instruction.Insn.TheVariants.{Alu, CopyFromX, CopyToX, Jump, JumpIf, LoadAbsolute, LoadCell, LoadConstant, LoadIndexed, LoadLength, LoadXCell, LoadXConstant, LoadXHeader, LoadXLength, Negate, ReturnA, ReturnConstant, Store, StoreX}
use Rattle.bpf_insn.specs.declared.instruction.Size.TheVariants.{Byte, Half, Word}
use Rattle.bpf_insn.specs.declared.instruction.Operation.TheVariants.{Add, And, Div, Lsh, Mod, Mul, Or, Rsh, Sub, Xor}
use Rattle.bpf_insn.specs.declared.instruction.Operand.TheVariants.{K, X}
use Rattle.bpf_insn.specs.declared.instruction.Test.TheVariants.{CommonBit, Equal, Greater, GreaterOrEqual}
use Rattle.bpf_insn.specs.declared.instruction.WordFault.{WordFault}
use Rattle.bpf_insn.specs.declared.instruction.WordFault.TheVariants.{BadOpcode, StrayField}
use Rattle.bpf_insn.specs.declared.decoding.Decoded.{Decoded}
use Rattle.bpf_insn.specs.body.Decoded.{decoded_with, tested}
use Rattle.bpf_insn.specs.Table.{Entry, Uses, instruction_with, table, unused_sum, uses_in, uses_of}
use Rattle.bpf_insn.specs.Word.{FieldsFit, IsInstructionWord, code_of, constant_of, false_jump_of, fields_instruction, instruction_of, true_jump_of, word, word_of}

-- ---- a word and its fields

pub word-split : (w : ℕ) → word (code_of w) (true_jump_of w) (false_jump_of w) (constant_of w) ≡ w
word-split w = omega arith

module _ (code jt jf k : ℕ) (jt_fits : jt < 2 ^ 8) (jf_fits : jf < 2 ^ 8) (k_fits : k < 2 ^ 32) where
  pub code_of-word : code_of (word code jt jf k) ≡ code
  code_of-word = omega arith

  pub true_jump_of-word : true_jump_of (word code jt jf k) ≡ jt
  true_jump_of-word = omega arith

  pub false_jump_of-word : false_jump_of (word code jt jf k) ≡ jf
  false_jump_of-word = omega arith

  pub constant_of-word : constant_of (word code jt jf k) ≡ k
  constant_of-word = omega arith

  pub instruction_of-word : instruction_of (word code jt jf k) ≡ fields_instruction (uses_of code) jt jf k
  unfolding instruction_of
  instruction_of-word =
      let c = code_of-word in
      let t = true_jump_of-word in
      let f = false_jump_of-word in
      let n = constant_of-word in
      cc

-- the constant as the decoder takes it
pub decoded_with-masked : (w : ℕ) → decoded_with (uses_of (w / 2 ^ 48)) (true_jump_of w) (false_jump_of w) (bit_and w 4294967295) ≡ decoded_with (uses_of (code_of w)) (true_jump_of w) (false_jump_of w) (constant_of w)
decoded_with-masked w = let n = and_mask w 32 in cc

-- ---- from instructions to words and back

pub instruction_of-word_of : (insn : Insn) → FieldsFit insn → instruction_of (word_of insn) ≡ Ok insn
unfolding uses_of table
instruction_of-word_of (LoadAbsolute Word k) fits = instruction_of-word 0x20 0 0 k (omega arith) (omega arith) fits
instruction_of-word_of (LoadAbsolute Half k) fits = instruction_of-word 0x28 0 0 k (omega arith) (omega arith) fits
instruction_of-word_of (LoadAbsolute Byte k) fits = instruction_of-word 0x30 0 0 k (omega arith) (omega arith) fits
instruction_of-word_of (LoadIndexed Word k) fits = instruction_of-word 0x40 0 0 k (omega arith) (omega arith) fits
instruction_of-word_of (LoadIndexed Half k) fits = instruction_of-word 0x48 0 0 k (omega arith) (omega arith) fits
instruction_of-word_of (LoadIndexed Byte k) fits = instruction_of-word 0x50 0 0 k (omega arith) (omega arith) fits
instruction_of-word_of (LoadConstant k) fits = instruction_of-word 0x00 0 0 k (omega arith) (omega arith) fits
instruction_of-word_of (LoadCell k) fits = instruction_of-word 0x60 0 0 k (omega arith) (omega arith) fits
instruction_of-word_of LoadLength fits = instruction_of-word 0x80 0 0 0 (omega arith) (omega arith) (omega arith)
instruction_of-word_of (LoadXConstant k) fits = instruction_of-word 0x01 0 0 k (omega arith) (omega arith) fits
instruction_of-word_of (LoadXCell k) fits = instruction_of-word 0x61 0 0 k (omega arith) (omega arith) fits
instruction_of-word_of LoadXLength fits = instruction_of-word 0x81 0 0 0 (omega arith) (omega arith) (omega arith)
instruction_of-word_of (LoadXHeader k) fits = instruction_of-word 0xb1 0 0 k (omega arith) (omega arith) fits
instruction_of-word_of (Store k) fits = instruction_of-word 0x02 0 0 k (omega arith) (omega arith) fits
instruction_of-word_of (StoreX k) fits = instruction_of-word 0x03 0 0 k (omega arith) (omega arith) fits
instruction_of-word_of (Alu Add (K k)) fits = instruction_of-word 0x04 0 0 k (omega arith) (omega arith) fits
instruction_of-word_of (Alu Add X) fits = instruction_of-word 0x0c 0 0 0 (omega arith) (omega arith) (omega arith)
instruction_of-word_of (Alu Sub (K k)) fits = instruction_of-word 0x14 0 0 k (omega arith) (omega arith) fits
instruction_of-word_of (Alu Sub X) fits = instruction_of-word 0x1c 0 0 0 (omega arith) (omega arith) (omega arith)
instruction_of-word_of (Alu Mul (K k)) fits = instruction_of-word 0x24 0 0 k (omega arith) (omega arith) fits
instruction_of-word_of (Alu Mul X) fits = instruction_of-word 0x2c 0 0 0 (omega arith) (omega arith) (omega arith)
instruction_of-word_of (Alu Div (K k)) fits = instruction_of-word 0x34 0 0 k (omega arith) (omega arith) fits
instruction_of-word_of (Alu Div X) fits = instruction_of-word 0x3c 0 0 0 (omega arith) (omega arith) (omega arith)
instruction_of-word_of (Alu Or (K k)) fits = instruction_of-word 0x44 0 0 k (omega arith) (omega arith) fits
instruction_of-word_of (Alu Or X) fits = instruction_of-word 0x4c 0 0 0 (omega arith) (omega arith) (omega arith)
instruction_of-word_of (Alu And (K k)) fits = instruction_of-word 0x54 0 0 k (omega arith) (omega arith) fits
instruction_of-word_of (Alu And X) fits = instruction_of-word 0x5c 0 0 0 (omega arith) (omega arith) (omega arith)
instruction_of-word_of (Alu Lsh (K k)) fits = instruction_of-word 0x64 0 0 k (omega arith) (omega arith) fits
instruction_of-word_of (Alu Lsh X) fits = instruction_of-word 0x6c 0 0 0 (omega arith) (omega arith) (omega arith)
instruction_of-word_of (Alu Rsh (K k)) fits = instruction_of-word 0x74 0 0 k (omega arith) (omega arith) fits
instruction_of-word_of (Alu Rsh X) fits = instruction_of-word 0x7c 0 0 0 (omega arith) (omega arith) (omega arith)
instruction_of-word_of (Alu Mod (K k)) fits = instruction_of-word 0x94 0 0 k (omega arith) (omega arith) fits
instruction_of-word_of (Alu Mod X) fits = instruction_of-word 0x9c 0 0 0 (omega arith) (omega arith) (omega arith)
instruction_of-word_of (Alu Xor (K k)) fits = instruction_of-word 0xa4 0 0 k (omega arith) (omega arith) fits
instruction_of-word_of (Alu Xor X) fits = instruction_of-word 0xac 0 0 0 (omega arith) (omega arith) (omega arith)
instruction_of-word_of Negate fits = instruction_of-word 0x84 0 0 0 (omega arith) (omega arith) (omega arith)
instruction_of-word_of CopyToX fits = instruction_of-word 0x07 0 0 0 (omega arith) (omega arith) (omega arith)
instruction_of-word_of CopyFromX fits = instruction_of-word 0x87 0 0 0 (omega arith) (omega arith) (omega arith)
instruction_of-word_of (Jump k) fits = instruction_of-word 0x05 0 0 k (omega arith) (omega arith) fits
instruction_of-word_of (JumpIf Equal (K k) offsets) fits = instruction_of-word 0x15 offsets.jt offsets.jf k fits.1 fits.2 fits.0
instruction_of-word_of (JumpIf Equal X offsets) fits = instruction_of-word 0x1d offsets.jt offsets.jf 0 fits.1 fits.2 (omega arith)
instruction_of-word_of (JumpIf Greater (K k) offsets) fits = instruction_of-word 0x25 offsets.jt offsets.jf k fits.1 fits.2 fits.0
instruction_of-word_of (JumpIf Greater X offsets) fits = instruction_of-word 0x2d offsets.jt offsets.jf 0 fits.1 fits.2 (omega arith)
instruction_of-word_of (JumpIf GreaterOrEqual (K k) offsets) fits = instruction_of-word 0x35 offsets.jt offsets.jf k fits.1 fits.2 fits.0
instruction_of-word_of (JumpIf GreaterOrEqual X offsets) fits = instruction_of-word 0x3d offsets.jt offsets.jf 0 fits.1 fits.2 (omega arith)
instruction_of-word_of (JumpIf CommonBit (K k) offsets) fits = instruction_of-word 0x45 offsets.jt offsets.jf k fits.1 fits.2 fits.0
instruction_of-word_of (JumpIf CommonBit X offsets) fits = instruction_of-word 0x4d offsets.jt offsets.jf 0 fits.1 fits.2 (omega arith)
instruction_of-word_of (ReturnConstant k) fits = instruction_of-word 0x06 0 0 k (omega arith) (omega arith) fits
instruction_of-word_of ReturnA fits = instruction_of-word 0x16 0 0 0 (omega arith) (omega arith) (omega arith)

-- ---- from words to instructions and back

-- the instruction of an entry has the entry's code, and 0 in the fields that it does not use; and fields in their ranges stay so
abbrev pub Encodes : Entry → Type 0
Encodes entry =
    ((jt jf k : ℕ) → unused_sum entry.uses jt jf k ≡ 0 → word_of (instruction_with entry.uses jt jf k) ≡ word entry.code jt jf k)
    × ((jt jf k : ℕ) → jt < 2 ^ 8 → jf < 2 ^ 8 → k < 2 ^ 32 → FieldsFit (instruction_with entry.uses jt jf k))

data AllEncode : List Entry → Type 0 where
  no_entries : AllEncode []
  ◌▹◌ : {entry : Entry} {entries : List Entry} → Encodes entry → AllEncode entries → AllEncode (entry ∷ entries)

infixr 5 ◌▹◌
constant_encodes : (code : ℕ) → ((jt jf k : ℕ) → jt + jf ≡ 0 → word code 0 0 k ≡ word code jt jf k) × ((jt jf k : ℕ) → jt < 2 ^ 8 → jf < 2 ^ 8 → k < 2 ^ 32 → k < 2 ^ 32)
constant_encodes code = (λ jt jf k zero. omega arith, λ jt jf k t f c. c)

none_encodes : (code : ℕ) → ((jt jf k : ℕ) → jt + jf + k ≡ 0 → word code 0 0 0 ≡ word code jt jf k) × ((jt jf k : ℕ) → jt < 2 ^ 8 → jf < 2 ^ 8 → k < 2 ^ 32 → Unit {0})
none_encodes code = (λ jt jf k zero. omega arith, λ jt jf k t f c. tt)

jumps_encode : (code : ℕ) → ((jt jf k : ℕ) → k ≡ 0 → word code jt jf 0 ≡ word code jt jf k) × ((jt jf k : ℕ) → jt < 2 ^ 8 → jf < 2 ^ 8 → k < 2 ^ 32 → Unit {0} × (jt < 2 ^ 8) × (jf < 2 ^ 8))
jumps_encode code = (λ jt jf k zero. omega arith, λ jt jf k t f c. (tt, t, f))

all_encode : (code : ℕ) → ((jt jf k : ℕ) → ◌≡◌ {A = ℕ} 0 0 → word code jt jf k ≡ word code jt jf k) × ((jt jf k : ℕ) → jt < 2 ^ 8 → jf < 2 ^ 8 → k < 2 ^ 32 → (k < 2 ^ 32) × (jt < 2 ^ 8) × (jf < 2 ^ 8))
all_encode code = (λ jt jf k zero. refl, λ jt jf k t f c. (c, t, f))

table-encodes : AllEncode table
unfolding table
table-encodes =
    constant_encodes 0x20
    ▹ constant_encodes 0x28
    ▹ constant_encodes 0x30
    ▹ constant_encodes 0x40
    ▹ constant_encodes 0x48
    ▹ constant_encodes 0x50
    ▹ constant_encodes 0x00
    ▹ constant_encodes 0x60
    ▹ none_encodes 0x80
    ▹ constant_encodes 0x01
    ▹ constant_encodes 0x61
    ▹ none_encodes 0x81
    ▹ constant_encodes 0xb1
    ▹ constant_encodes 0x02
    ▹ constant_encodes 0x03
    ▹ constant_encodes 0x04
    ▹ none_encodes 0x0c
    ▹ constant_encodes 0x14
    ▹ none_encodes 0x1c
    ▹ constant_encodes 0x24
    ▹ none_encodes 0x2c
    ▹ constant_encodes 0x34
    ▹ none_encodes 0x3c
    ▹ constant_encodes 0x44
    ▹ none_encodes 0x4c
    ▹ constant_encodes 0x54
    ▹ none_encodes 0x5c
    ▹ constant_encodes 0x64
    ▹ none_encodes 0x6c
    ▹ constant_encodes 0x74
    ▹ none_encodes 0x7c
    ▹ constant_encodes 0x94
    ▹ none_encodes 0x9c
    ▹ constant_encodes 0xa4
    ▹ none_encodes 0xac
    ▹ none_encodes 0x84
    ▹ none_encodes 0x07
    ▹ none_encodes 0x87
    ▹ constant_encodes 0x05
    ▹ all_encode 0x15
    ▹ jumps_encode 0x1d
    ▹ all_encode 0x25
    ▹ jumps_encode 0x2d
    ▹ all_encode 0x35
    ▹ jumps_encode 0x3d
    ▹ all_encode 0x45
    ▹ jumps_encode 0x4d
    ▹ constant_encodes 0x06
    ▹ none_encodes 0x16
    ▹ no_entries

entry-step : (b : Bool) (entry : Entry) (code : ℕ) (rest : Option Uses) (uses : Uses) → (entry.code == code) ≡ b → Encodes entry → (rest ≡ Some uses → Encodes (record { code = code; uses = uses })) → cond b (Some entry.uses) rest ≡ Some uses → Encodes (record { code = code; uses = uses })
entry-step true entry code rest uses test here later found =
    let at : entry.code ≡ code = eqb-true entry.code code test in
    let same : entry.uses ≡ uses = cc in
    subst (λ (u : Uses). Encodes (record { code = code; uses = u })) same (subst (λ (c : ℕ). Encodes (record { code = c; uses = entry.uses })) at here)
entry-step false entry code rest uses test here later found = later found

uses_in-encodes : (entries : List Entry) (code : ℕ) (uses : Uses) → AllEncode entries → uses_in entries code ≡ Some uses → Encodes (record { code = code; uses = uses })
uses_in-encodes [] code uses no_entries found = cc
uses_in-encodes (entry ∷ entries) code uses (here ▹ later) found =
    entry-step (entry.code == code) entry code (uses_in entries code) uses refl here (uses_in-encodes entries code uses later) found

uses_of-encodes : (code : ℕ) (uses : Uses) → uses_of code ≡ Some uses → Encodes (record { code = code; uses = uses })
unfolding uses_of
uses_of-encodes code uses found = uses_in-encodes table code uses table-encodes found

-- the entry that made an instruction of three fields
record IsMadeBy (found : Option Uses) (jt jf k : ℕ) (insn : Insn) : Type 0 where
  uses : Uses
  is_found : found ≡ Some uses
  unused_zero : unused_sum uses jt jf k ≡ 0
  is_made : instruction_with uses jt jf k ≡ insn

made-cases : (uses : Uses) (jt jf k : ℕ) (insn : Insn) (b : Bool) → (unused_sum uses jt jf k == 0) ≡ b → cond b (Ok (instruction_with uses jt jf k)) (Err StrayField) ≡ Ok insn → (unused_sum uses jt jf k ≡ 0) × (instruction_with uses jt jf k ≡ insn)
made-cases uses jt jf k insn true zero e = (eqb-true _ 0 zero, cc)
made-cases uses jt jf k insn false zero e = cc

fields_instruction-Ok : (found : Option Uses) (jt jf k : ℕ) (insn : Insn) → fields_instruction found jt jf k ≡ Ok insn → IsMadeBy found jt jf k insn
fields_instruction-Ok None jt jf k insn e = cc
fields_instruction-Ok (Some uses) jt jf k insn e =
    let parts = made-cases uses jt jf k insn (unused_sum uses jt jf k == 0) refl e in
    record { uses = uses; is_found = refl; unused_zero = parts.0; is_made = parts.1 }

pub instruction_of-sound : (w : ℕ) (insn : Insn) → instruction_of w ≡ Ok insn → IsInstructionWord w × (word_of insn ≡ w)
unfolding instruction_of
instruction_of-sound w insn e =
    let made_by = fields_instruction-Ok (uses_of (code_of w)) (true_jump_of w) (false_jump_of w) (constant_of w) insn e in
    let encodes = (uses_of-encodes (code_of w) made_by.uses made_by.is_found).0 (true_jump_of w) (false_jump_of w) (constant_of w) made_by.unused_zero in (
      record {
        code = code_of w;
        jt = true_jump_of w;
        jf = false_jump_of w;
        k = constant_of w;
        uses = made_by.uses;
        in_table = made_by.is_found;
        jt_fits = omega arith;
        jf_fits = omega arith;
        k_fits = omega arith;
        unused_zero = made_by.unused_zero;
        is_word = sym (word-split w);
      },
      sym (ap word_of made_by.is_made) ∙ encodes ∙ word-split w,
    )

fields_instruction-made : (found : Option Uses) (uses : Uses) (jt jf k : ℕ) → found ≡ Some uses → unused_sum uses jt jf k ≡ 0 → fields_instruction found jt jf k ≡ Ok (instruction_with uses jt jf k)
fields_instruction-made found uses jt jf k e zero = rw (e, zero) refl

pub instruction_of-complete : (w : ℕ) (h : IsInstructionWord w) → instruction_of w ≡ Ok (instruction_with h.uses h.jt h.jf h.k)
instruction_of-complete w h =
    ap instruction_of h.is_word
    ∙ instruction_of-word h.code h.jt h.jf h.k h.jt_fits h.jf_fits h.k_fits
    ∙ fields_instruction-made (uses_of h.code) h.uses h.jt h.jf h.k h.in_table h.unused_zero

-- the fields of an instruction that is read are in their ranges
pub fields_fit : (w : ℕ) (insn : Insn) → instruction_of w ≡ Ok insn → FieldsFit insn
fields_fit w insn e =
    let h = (instruction_of-sound w insn e).0 in
    let made : instruction_with h.uses h.jt h.jf h.k ≡ insn = (let both = instruction_of-complete w h in cc) in
    subst FieldsFit made ((uses_of-encodes h.code h.uses h.in_table).1 h.jt h.jf h.k h.jt_fits h.jf_fits h.k_fits)

IsOk-sound : (w : ℕ) (r : Result Insn WordFault) → instruction_of w ≡ r → IsOk r → IsInstructionWord w
IsOk-sound w (Ok insn) e ok = (instruction_of-sound w insn e).0
IsOk-sound w (Err fault) e ok = cc

pub instruction_of-exact : (w : ℕ) → IsOk (instruction_of w) ↔ IsInstructionWord w
instruction_of-exact w = (IsOk-sound w (instruction_of w) refl, λ h. rw (instruction_of-complete w h) refl)

-- ---- what the decoder found

tested-decoded_with : (found : Option Uses) (jt jf k : ℕ) → tested (decoded_with found jt jf k) ≡ fields_instruction found jt jf k
tested-decoded_with None jt jf k = refl
tested-decoded_with (Some uses) jt jf k = refl

abbrev pub decoded_of : ℕ → Option Decoded
decoded_of w = decoded_with (uses_of (code_of w)) (true_jump_of w) (false_jump_of w) (constant_of w)

pub tested-decoded_of : (w : ℕ) → tested (decoded_of w) ≡ instruction_of w
unfolding instruction_of
tested-decoded_of w = tested-decoded_with (uses_of (code_of w)) (true_jump_of w) (false_jump_of w) (constant_of w)

untested : (decoded : Decoded) (b : Bool) (insn : Insn) → ◌≡◌ {A = Result Insn WordFault} (cond b (Ok decoded.insn) (Err StrayField)) (Ok insn) → decoded.insn ≡ insn
untested decoded true insn e = cc
untested decoded false insn e = cc

-- of an instruction's word the decoder finds the instruction
pub decoded_instruction : (w : ℕ) (decoded : Decoded) → IsInstructionWord w → decoded_of w ≡ Some decoded → instruction_of w ≡ Ok decoded.insn
decoded_instruction w decoded h e =
    let complete = instruction_of-complete w h in
    let test : cond decoded.unused_zero (Ok decoded.insn) (Err StrayField) ≡ Ok (instruction_with h.uses h.jt h.jf h.k) = ap tested (sym e) ∙ tested-decoded_of w ∙ complete in
    complete ∙ ap (λ i. Ok i) (sym (untested decoded decoded.unused_zero (instruction_with h.uses h.jt h.jf h.k) test))

-- ---- the clauses of the calls, of any result that is a word's

pub IfOk-back : (w : ℕ) (r : Result Insn WordFault) → r ≡ instruction_of w → IfOk r (λ insn. word_of insn ≡ w)
IfOk-back w (Ok insn) e = (instruction_of-sound w insn (sym e)).1
IfOk-back w (Err fault) e = tt

pub IfOk-bytes : (w : ℕ) (bytes : List ℕ) (r : Result Insn WordFault) → to_be_bytes w64 w ≡ bytes → IfOk r (λ insn. word_of insn ≡ w) → IfOk r (λ insn. to_be_bytes w64 (word_of insn) ≡ bytes)
IfOk-bytes w bytes (Ok insn) e back = ap (λ n. to_be_bytes w64 n) back ∙ e
IfOk-bytes w bytes (Err fault) e back = tt

pub bytes_read_back : (w : ℕ) → w < 2 ^ 64 → from_be_bytes w64 (to_be_bytes w64 w) ≡ w
bytes_read_back w fits = from_be_bytes-to_be_bytes_8 w fits

known-step : (uses : Uses) (jt jf k : ℕ) (b : Bool) → ◌≡◌ {A = Result Insn WordFault} (cond b (Ok (instruction_with uses jt jf k)) (Err StrayField)) (Err BadOpcode) → IsNone (Some uses)
known-step uses jt jf k true e = cc
known-step uses jt jf k false e = cc

fields_instruction-bad : (found : Option Uses) (jt jf k : ℕ) → (fields_instruction found jt jf k ≡ Err BadOpcode) ↔ IsNone found
fields_instruction-bad None jt jf k = (λ e. refl, λ e. refl)
fields_instruction-bad (Some uses) jt jf k = (known-step uses jt jf k (unused_sum uses jt jf k == 0), λ none. cc)

pub bad_opcode : (w : ℕ) → (instruction_of w ≡ Err BadOpcode) ↔ IsNone (uses_of (code_of w))
unfolding instruction_of
bad_opcode w = fields_instruction-bad (uses_of (code_of w)) (true_jump_of w) (false_jump_of w) (constant_of w)

known_of_stray : (found : Option Uses) (jt jf k : ℕ) → fields_instruction found jt jf k ≡ Err StrayField → IsSome found
known_of_stray None jt jf k e = cc
known_of_stray (Some uses) jt jf k e = refl

some_not_none : (found : Option Uses) → IsSome found → ¬ IsNone found
some_not_none None some none = cc
some_not_none (Some uses) some none = cc

stray_of_known : (w : ℕ) (r : Result Insn WordFault) → instruction_of w ≡ r → IsSome (uses_of (code_of w)) → (¬ IsInstructionWord w) → r ≡ Err StrayField
stray_of_known w (Ok insn) e known none = absurd (none (instruction_of-sound w insn e).0)
stray_of_known w (Err BadOpcode) e known none = absurd (some_not_none _ known ((bad_opcode w).0 e))
stray_of_known w (Err StrayField) e known none = refl

known_stray : (w : ℕ) → instruction_of w ≡ Err StrayField → IsSome (uses_of (code_of w))
unfolding instruction_of
known_stray w e = known_of_stray (uses_of (code_of w)) (true_jump_of w) (false_jump_of w) (constant_of w) e

pub stray_field : (w : ℕ) → (instruction_of w ≡ Err StrayField) ↔ (IsSome (uses_of (code_of w)) × (¬ IsInstructionWord w))
stray_field w = (
  λ e. (known_stray w e, λ h. let ok = instruction_of-complete w h in cc),
  λ h. stray_of_known w (instruction_of w) refl h.0 h.1,
)
