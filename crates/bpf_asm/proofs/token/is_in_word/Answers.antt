-- The table is held against the definition at each of the 256 bytes, by computing.
use Rattle.std.proofs.Common.{◌≡◌, ◌<◌, List, arith, get_or, nat_eq, not, refl, true, ℕ}
use Rattle.bpf_asm.specs.declared.token.TheConstants.{IN_WORDS}
use Rattle.bpf_asm.specs.Token.{is_in_word}
use Rattle.bpf_asm.proofs.TableLemmas.{agree_at, agree_below}
use Rattle.bpf_asm.proofs.token.is_in_word.Goals as goal

from_table : (table : List ℕ) (b : ℕ) → b < 256 → agree_below (λ k. not (nat_eq (get_or table k 0) 44)) is_in_word 256 ≡ true → not (nat_eq (get_or table b 0) 44) ≡ is_in_word b
from_table table b low agree = agree_at (λ k. not (nat_eq (get_or table k 0) 44)) is_in_word 256 b agree low

pub returns : goal.returns
unfolding agree_below
returns c = from_table IN_WORDS c.args.b (omega arith) refl
