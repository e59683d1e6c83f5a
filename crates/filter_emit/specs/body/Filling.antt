-- What it is to fill a jump.
use Rattle.std.specs.Prelude.{◌≡◌, ◌+◌, ◌-◌, ◌*◌, ◌/◌, ◌%◌, ◌^◌, ◌<◌, List, Ok, slice_set, ℕ}
use Rattle.bpf_insn.specs.Word.{instruction_of}
use Rattle.bpf_insn.specs.declared.instruction.Insn.{Insn}
use Rattle.bpf_insn.specs.declared.instruction.Insn.TheVariants.{Jump, JumpIf}
use Rattle.bpf_insn.specs.Table.{offsets}
use Rattle.bpf_verify.specs.Path.{IsAt}
use Rattle.filter_emit.specs.declared.fixup.Fixup.{Fixup}
use Rattle.filter_emit.specs.declared.fixup.Side.{Side}
use Rattle.filter_emit.specs.declared.fixup.Side.TheVariants.{Always, WhenFalse, WhenTrue}

-- the instruction with one of its jumps this long
abbrev pub with_offset : Side → ℕ → Insn → Insn
with_offset WhenTrue k (JumpIf test operand skips) = JumpIf test operand (offsets k skips.jf)
with_offset WhenFalse k (JumpIf test operand skips) = JumpIf test operand (offsets skips.jt k)
with_offset Always k (Jump old) = Jump k
with_offset _ k insn = insn

-- a word with another jt
abbrev pub with_jt : ℕ → ℕ → ℕ
with_jt word jt = word / 2 ^ 48 * 2 ^ 48 + jt * 2 ^ 40 + word % 2 ^ 40

-- a word with another jf
abbrev pub with_jf : ℕ → ℕ → ℕ
with_jf word jf = word / 2 ^ 40 * 2 ^ 40 + jf * 2 ^ 32 + word % 2 ^ 32

-- a word with another k
abbrev pub with_k : ℕ → ℕ → ℕ
with_k word k = word / 2 ^ 32 * 2 ^ 32 + k

-- a word with another jump of its instruction
abbrev pub with_skip : Side → ℕ → ℕ → ℕ
with_skip WhenTrue word k = with_jt word k
with_skip WhenFalse word k = with_jf word k
with_skip Always word k = with_k word k

-- a jump is in its range
abbrev pub SkipFits : Side → ℕ → Type 0
SkipFits Always k = k < 2 ^ 32
SkipFits _ k = k < 2 ^ 8

-- the jump of a fixup is filled
abbrev pub IsFilledIn : Fixup → ℕ → List ℕ → List ℕ → Type 0
IsFilledIn fixup to before after =
    (insn : Insn) × (word : ℕ) × IsAt before fixup.place insn × (instruction_of word ≡ Ok (with_offset fixup.side (to - fixup.place - 1) insn)) × (after ≡ slice_set before fixup.place word)
