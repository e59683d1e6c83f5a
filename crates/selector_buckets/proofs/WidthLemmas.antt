-- The buckets of a table share the hashes out.
use Rattle.std.proofs.Common.{◌≡◌, ◌*◌, ◌^◌, ◌≤◌, arith, refl, suc, zero, ℕ}
use Rattle.selector_buckets.specs.Hash.{width_of}

pub whole_width : (depth : ℕ) → depth ≤ 8 → 2 ^ depth * width_of (2 ^ depth) ≡ 2 ^ 32
whole_width zero few = refl
whole_width (suc zero) few = refl
whole_width (suc (suc zero)) few = refl
whole_width (suc (suc (suc zero))) few = refl
whole_width (suc (suc (suc (suc zero)))) few = refl
whole_width (suc (suc (suc (suc (suc zero))))) few = refl
whole_width (suc (suc (suc (suc (suc (suc zero)))))) few = refl
whole_width (suc (suc (suc (suc (suc (suc (suc zero))))))) few = refl
whole_width (suc (suc (suc (suc (suc (suc (suc (suc zero)))))))) few = refl
whole_width (suc (suc (suc (suc (suc (suc (suc (suc (suc more))))))))) few = absurd (omega arith)
