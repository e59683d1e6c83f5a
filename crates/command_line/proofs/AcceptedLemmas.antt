-- The small programs of the sample group are accepted.
use Rattle.std.proofs.Common.{◌∷◌, ◌<◌, ◌≤◌, List, [], arith, length, lit<, lit≤, refl, subst, suc, zero, ℕ}
use Rattle.std.proofs.lemmas.Option.{slice_get_within}
use Rattle.bpf_insn.specs.declared.instruction.Insn.{Insn}
use Rattle.bpf_insn.specs.declared.instruction.Insn.TheVariants.{JumpIf, LoadAbsolute, ReturnConstant}
use Rattle.bpf_insn.specs.declared.instruction.Size.TheVariants.{Byte}
use Rattle.bpf_insn.specs.declared.instruction.Operand.TheVariants.{K}
use Rattle.bpf_insn.specs.declared.instruction.Test.TheVariants.{Equal}
use Rattle.bpf_insn.specs.Table.{table, uses_of}
use Rattle.bpf_insn.specs.Word.{instruction_of}
use Rattle.bpf_verify.specs.Path.{IsAt, Loads, LoadsAt}
use Rattle.bpf_verify.specs.Accepted.{IsAccepted, IsFaultless}
use Rattle.bpf_verify.proofs.PlaceLemmas.{IsAt-unique}

abbrev pub first_program : List ℕ
first_program = 0x0030_0000_0000_0009 ∷ 0x0015_0001_0000_0011 ∷ 0x0006_0000_0000_ffff ∷ 0x0006_0000_0000_0000 ∷ []

abbrev pub second_program : List ℕ
second_program = 0x0006_0000_0000_0000 ∷ []

not_loading : (program : List ℕ) (pc cell : ℕ) (insn : Insn) → IsAt program pc insn → (Loads insn cell → ⊥) → LoadsAt program pc cell → ⊥
not_loading program pc cell insn at none loads = none (subst (λ i. Loads i cell) (IsAt-unique program pc loads.0 insn loads.1 at) loads.2)

nothing_there : (program : List ℕ) (pc cell : ℕ) → length program ≤ pc → LoadsAt program pc cell → ⊥
nothing_there program pc cell past loads = let inside = slice_get_within program pc loads.1.0 loads.1.1 in absurd (omega arith)

first_loads : (pc cell : ℕ) → LoadsAt first_program pc cell → ⊥
unfolding instruction_of uses_of table
first_loads zero cell loads = not_loading first_program 0 cell (LoadAbsolute Byte 9) (_, refl, refl) (λ never. never) loads
first_loads (suc zero) cell loads = not_loading first_program 1 cell (JumpIf Equal (K 17) (record { jt = 0; jf = 1 })) (_, refl, refl) (λ never. never) loads
first_loads (suc (suc zero)) cell loads = not_loading first_program 2 cell (ReturnConstant 65535) (_, refl, refl) (λ never. never) loads
first_loads (suc (suc (suc zero))) cell loads = not_loading first_program 3 cell (ReturnConstant 0) (_, refl, refl) (λ never. never) loads
first_loads (suc (suc (suc (suc pc)))) cell loads = nothing_there first_program (suc (suc (suc (suc pc)))) cell (omega arith) loads

first_faultless : (pc : ℕ) → pc < 4 → IsFaultless first_program pc
unfolding instruction_of uses_of table
first_faultless zero inside = (_, refl, refl)
first_faultless (suc zero) inside = (_, refl, refl)
first_faultless (suc (suc zero)) inside = (_, refl, refl)
first_faultless (suc (suc (suc zero))) inside = (_, refl, refl)
first_faultless (suc (suc (suc (suc pc)))) inside = absurd (omega arith)

pub first_accepted : IsAccepted first_program
unfolding instruction_of uses_of table
first_accepted =
    record {
      not_empty = lit< tt;
      not_too_long = lit≤ tt;
      faultless = first_faultless;
      ends_in_return = (ReturnConstant 0, (_, refl, refl), tt);
      stores_before = λ pc cell loads. absurd (first_loads pc cell loads);
    }

-- one instruction that returns a constant
module _ (word k : ℕ) (at : IsAt (word ∷ []) 0 (ReturnConstant k)) (fine : IsFaultless (word ∷ []) 0) where
  return_loads : (pc cell : ℕ) → LoadsAt (word ∷ []) pc cell → ⊥
  return_loads zero cell loads = not_loading (word ∷ []) 0 cell (ReturnConstant k) at (λ never. never) loads
  return_loads (suc pc) cell loads = nothing_there (word ∷ []) (suc pc) cell (omega arith) loads

  return_faultless : (pc : ℕ) → pc < 1 → IsFaultless (word ∷ []) pc
  return_faultless zero inside = fine
  return_faultless (suc pc) inside = absurd (omega arith)

  return_accepted : IsAccepted (word ∷ [])
  return_accepted =
      record {
        not_empty = lit< tt;
        not_too_long = lit≤ tt;
        faultless = return_faultless;
        ends_in_return = (ReturnConstant k, at, tt);
        stores_before = λ pc cell loads. absurd (return_loads pc cell loads);
      }

pub second_accepted : IsAccepted second_program
unfolding instruction_of uses_of table
second_accepted = return_accepted 0x0006_0000_0000_0000 0 (_, refl, refl) (_, refl, refl)

-- `ret #1`
pub third_accepted : IsAccepted (0x0006_0000_0000_0001 ∷ [])
unfolding instruction_of uses_of table
third_accepted = return_accepted 0x0006_0000_0000_0001 1 (_, refl, refl) (_, refl, refl)
