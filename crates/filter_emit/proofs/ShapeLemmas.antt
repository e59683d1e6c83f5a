-- Instructions whose jumps are filled.
use Rattle.std.proofs.Common.{◌≡◌, ◌∙◌, Option, Some, ap, refl, subst, sym, ℕ}
use Rattle.bpf_insn.specs.declared.instruction.Insn.{Insn}
use Rattle.bpf_insn.specs.declared.instruction.Insn.TheVariants.{Jump, JumpIf}
use Rattle.bpf_insn.specs.Table.{offsets}
use Rattle.filter_emit.specs.declared.fixup.Side.{Side}
use Rattle.filter_emit.specs.declared.fixup.Side.TheVariants.{Always, WhenFalse, WhenTrue}
use Rattle.filter_emit.specs.Fixups.{offset_of, shape_of}
use Rattle.filter_emit.specs.Pieces.{IsJump}

-- an instruction is its shape and its jumps
abbrev rebuilt : Insn → Option ℕ → Option ℕ → Option ℕ → Insn
rebuilt (JumpIf test operand skips) (Some jt) (Some jf) always = JumpIf test operand (offsets jt jf)
rebuilt (Jump old) when_true when_false (Some k) = Jump k
rebuilt insn when_true when_false always = insn

rebuilt_is : (insn : Insn) → rebuilt (shape_of insn) (offset_of WhenTrue insn) (offset_of WhenFalse insn) (offset_of Always insn) ≡ insn
rebuilt_is (JumpIf test operand skips) = refl
rebuilt_is (Jump k) = refl
rebuilt_is insn = refl

-- an instruction of the same shape with the same jumps is the same
pub same_insn : (later insn : Insn) → shape_of later ≡ shape_of insn → ((side : Side) → offset_of side later ≡ offset_of side insn) → later ≡ insn
same_insn later insn shape same =
    sym (rebuilt_is later)
    ∙ (ap (λ i. rebuilt i (offset_of WhenTrue later) (offset_of WhenFalse later) (offset_of Always later)) shape
    ∙ (ap (λ j. rebuilt (shape_of insn) j (offset_of WhenFalse later) (offset_of Always later)) (same WhenTrue)
    ∙ (ap (λ j. rebuilt (shape_of insn) (offset_of WhenTrue insn) j (offset_of Always later)) (same WhenFalse)
    ∙ (ap (λ j. rebuilt (shape_of insn) (offset_of WhenTrue insn) (offset_of WhenFalse insn) j) (same Always) ∙ rebuilt_is insn))))

has_shape : (side : Side) (k : ℕ) (insn : Insn) → offset_of side insn ≡ Some k → (j : ℕ) × (offset_of side (shape_of insn) ≡ Some j)
has_shape WhenTrue k (JumpIf test operand skips) e = (0, refl)
has_shape WhenFalse k (JumpIf test operand skips) e = (0, refl)
has_shape Always k (Jump n) e = (0, refl)
has_shape _ k insn e = absurd cc

shape_has : (side : Side) (k : ℕ) (insn : Insn) → offset_of side (shape_of insn) ≡ Some k → (j : ℕ) × (offset_of side insn ≡ Some j)
shape_has WhenTrue k (JumpIf test operand skips) e = (skips.jt, refl)
shape_has WhenFalse k (JumpIf test operand skips) e = (skips.jf, refl)
shape_has Always k (Jump n) e = (n, refl)
shape_has _ k insn e = absurd cc

-- an instruction of the same shape has the same jumps
pub has_as : (side : Side) (k : ℕ) (insn later : Insn) → shape_of later ≡ shape_of insn → offset_of side insn ≡ Some k → (j : ℕ) × (offset_of side later ≡ Some j)
has_as side k insn later shape e = let s = has_shape side k insn e in shape_has side s.0 later (ap (offset_of side) shape ∙ s.1)

jump_shape : (insn : Insn) → IsJump insn → IsJump (shape_of insn)
jump_shape (JumpIf test operand skips) h = absurd h
jump_shape (Jump k) h = tt
jump_shape insn h = absurd h

shape_jump : (insn : Insn) → IsJump (shape_of insn) → IsJump insn
shape_jump (JumpIf test operand skips) h = absurd h
shape_jump (Jump k) h = tt
shape_jump insn h = absurd h

pub jump_as : (insn later : Insn) → shape_of later ≡ shape_of insn → IsJump later → IsJump insn
jump_as insn later shape h = shape_jump insn (subst IsJump shape (jump_shape later h))
