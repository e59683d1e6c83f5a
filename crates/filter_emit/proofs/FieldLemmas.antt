-- The jump of an instruction stands in bits of its word.
use Rattle.std.proofs.Common.{◌≡◌, ◌∙◌, ◌<◌, ◌^◌, List, Ok, Some, ap, arith, refl, ◌-◌, ◌≤◌, ℕ}
use Rattle.std.specs.Prelude.{slice_index_or, slice_set}
use Rattle.std.proofs.lemmas.Option.{get_or_from_slice_get}
use Rattle.bpf_insn.proofs.WordLemmas.{fields_fit, instruction_of-sound, instruction_of-word_of}
use Rattle.bpf_insn.specs.declared.instruction.Insn.{Insn}
use Rattle.bpf_insn.specs.declared.instruction.Insn.TheVariants.{Jump, JumpIf}
use Rattle.bpf_insn.specs.declared.instruction.Operand.{Operand}
use Rattle.bpf_insn.specs.declared.instruction.Operand.TheVariants.{K, X}
use Rattle.bpf_insn.specs.Table.{offsets}
use Rattle.bpf_insn.specs.Word.{FieldsFit, OperandFits, instruction_of, operand_word, test_code, word, word_of}
use Rattle.filter_emit.specs.declared.fixup.Side.{Side}
use Rattle.filter_emit.specs.declared.fixup.Side.TheVariants.{Always, WhenFalse, WhenTrue}
use Rattle.filter_emit.specs.declared.fixup.Fixup.{Fixup}
use Rattle.filter_emit.specs.Fixups.{CanReach, HasJump, offset_of}
use Rattle.filter_emit.specs.body.Filling.{IsFilledIn, SkipFits, with_jf, with_jt, with_k, with_offset, with_skip}

operand-jt : (code : ℕ) (operand : Operand) (jt jf k w : ℕ) → OperandFits operand → jt < 2 ^ 8 → jf < 2 ^ 8 → operand_word code operand jt jf ≡ w → with_jt w k ≡ operand_word code operand k jf
operand-jt code (K n) jt jf k w a b c e = omega arith
operand-jt code X jt jf k w a b c e = omega arith

operand-jf : (code : ℕ) (operand : Operand) (jt jf k w : ℕ) → OperandFits operand → jt < 2 ^ 8 → jf < 2 ^ 8 → operand_word code operand jt jf ≡ w → with_jf w k ≡ operand_word code operand jt k
operand-jf code (K n) jt jf k w a b c e = omega arith
operand-jf code X jt jf k w a b c e = omega arith

constant-k : (n k w : ℕ) → n < 2 ^ 32 → word 0x05 0 0 n ≡ w → with_k w k ≡ word 0x05 0 0 k
constant-k n k w a e = omega arith

-- the word with another jump is the word of the instruction with that jump
reads-case : (side : Side) (old k w : ℕ) (insn : Insn) → FieldsFit insn → word_of insn ≡ w → offset_of side insn ≡ Some old → SkipFits side k →
    instruction_of (with_skip side w k) ≡ Ok (with_offset side k insn)
reads-case WhenTrue old k w (JumpIf test operand skips) f e h s =
    ap instruction_of (operand-jt (test_code test) operand skips.jt skips.jf k w f.0 f.1 f.2 e) ∙ instruction_of-word_of (JumpIf test operand (offsets k skips.jf)) (f.0, s, f.2)
reads-case WhenFalse old k w (JumpIf test operand skips) f e h s =
    ap instruction_of (operand-jf (test_code test) operand skips.jt skips.jf k w f.0 f.1 f.2 e) ∙ instruction_of-word_of (JumpIf test operand (offsets skips.jt k)) (f.0, f.1, s)
reads-case Always old k w (Jump n) f e h s = ap instruction_of (constant-k n k w f e) ∙ instruction_of-word_of (Jump k) s
reads-case _ old k w insn f e h s = absurd cc

pub reads-with_skip : (side : Side) (old k w : ℕ) (insn : Insn) → instruction_of w ≡ Ok insn → offset_of side insn ≡ Some old → SkipFits side k →
    instruction_of (with_skip side w k) ≡ Ok (with_offset side k insn)
reads-with_skip side old k w insn e h s = reads-case side old k w insn (fields_fit w insn e) (instruction_of-sound w insn e).1 h s

pub skip-fits : (side : Side) (place to : ℕ) → CanReach place side to → place < to → to ≤ 4096 → SkipFits side (to - place - 1)
skip-fits WhenTrue place to near behind room = omega arith
skip-fits WhenFalse place to near behind room = omega arith
skip-fits Always place to near behind room = omega arith

-- the word at a fixup's place is filled by its bits
pub is_filled : (fixup : Fixup) (to word filled : ℕ) (words : List ℕ) → word ≡ slice_index_or words fixup.place word → filled ≡ with_skip fixup.side word (to - fixup.place - 1) →
    HasJump words fixup.place fixup.side → fixup.place < to → CanReach fixup.place fixup.side to → to ≤ 4096 → IsFilledIn fixup to words (slice_set words fixup.place filled)
is_filled fixup to word filled words read wrote there behind near room =
    let at = there.2 in
    let same : word ≡ at.0 = read ∙ get_or_from_slice_get words fixup.place at.0 word at.1 in (
      there.0,
      filled,
      at,
      rw (wrote, same) (reads-with_skip fixup.side there.1 (to - fixup.place - 1) at.0 there.0 at.2 there.3 (skip-fits fixup.side fixup.place to near behind room)),
      refl,
    )
