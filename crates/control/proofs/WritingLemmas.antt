-- Texts that are written in parts.
use Rattle.std.proofs.Common.{◌≡◌, ◌∙◌, ◌-◌, ◌++◌, Err, List, None, Ok, Option, Result, Some, ap, append_assoc, arith, drop, length, sym, take, ℕ}
use Rattle.std.proofs.lemmas.List.{length-drop, take-append-drop, take_all}
use Rattle.std.specs.Prelude.{IsErrAnd}
use Rattle.std.proofs.KnownBytes.{Appends-trans}
use Rattle.std.specs.Io.KnownBytes.{Appends}
use Rattle.control.specs.Replay.{WasWritten}

pub written_more : (failures : ℕ) (before mid after : Option (List ℕ)) (first then : List ℕ) → Appends before mid first → WasWritten failures mid after then → WasWritten failures before after (first ++ then)
written_more failures None mid after first then one two = tt
written_more failures (Some a) None after first then one two = absurd one
written_more failures (Some a) (Some b) None first then one two = two
written_more failures (Some a) (Some b) (Some c) first then one two = two ∙ (ap (λ bytes. bytes ++ then) one ∙ append_assoc a first then)

-- the bytes are what was told and what is left
pub record IsWrittenUpTo (before after : Option (List ℕ)) (bytes left : List ℕ) : Type 0 where
  pub told : List ℕ
  pub is : bytes ≡ told ++ left
  pub written : Appends before after told

behind_size : (size : ℕ) (left : List ℕ) → take (length left - size) (drop size left) ≡ drop size left
behind_size size left = let n = length-drop size left in take_all (length left - size) (drop size left) (omega arith)

pub written_further : (before mid after : Option (List ℕ)) (bytes left : List ℕ) (size : ℕ) → IsWrittenUpTo before mid bytes left → Appends mid after (take size left)
    → IsWrittenUpTo before after bytes (take (length left - size) (drop size left))
written_further before mid after bytes left size so_far more = record {
  told = so_far.told ++ take size left;
  is = so_far.is ∙ (ap (λ rest. so_far.told ++ rest) (sym (take-append-drop size left))
      ∙ (sym (append_assoc so_far.told (take size left) (drop size left)) ∙ ap (λ rest. (so_far.told ++ take size left) ++ rest) (sym (behind_size size left))));
  written = Appends-trans before mid after so_far.told (take size left) so_far.written more;
}

-- an error that is told by its fault
pub err_is : {A E : Type 0} (result : Result A E) (fault : E) → IsErrAnd result (λ told. told ≡ fault) → result ≡ Err fault
err_is (Ok done) fault told = absurd told
err_is (Err given) fault told = ap Err told
