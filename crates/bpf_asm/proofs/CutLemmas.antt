-- Cutting a text into lines.
use Rattle.std.proofs.Common.{◌≡◌, ◌++◌, Bool, List, [], ap, append_assoc, false, if◌then◌else◌, refl, sym, true, ◌∷◌, ℕ}
use Rattle.std.proofs.lemmas.List.{append-nil}
use Rattle.bpf_asm.specs.Line.{ends_line, lines_of, with_front}

-- the lines with more bytes at the front of the first
abbrev pub with_fronts : List ℕ → List (List ℕ) → List (List ℕ)
with_fronts bytes [] = bytes ∷ []
with_fronts bytes (line ∷ lines) = (bytes ++ line) ∷ lines

pub with_fronts-with_front : (bytes : List ℕ) (b : ℕ) (lines : List (List ℕ)) → with_fronts bytes (with_front b lines) ≡ with_fronts (bytes ++ b ∷ []) lines
with_fronts-with_front bytes b [] = refl
with_fronts-with_front bytes b (line ∷ lines) = ap (λ first. first ∷ lines) (sym (append_assoc bytes (b ∷ []) line))

pub with_fronts-first : (bytes : List ℕ) (lines : List (List ℕ)) → with_fronts bytes ([] ∷ lines) ≡ bytes ∷ lines
with_fronts-first bytes lines = ap (λ first. first ∷ lines) (append-nil bytes)

kept : (ends : Bool) (b : ℕ) (lines : List (List ℕ)) → with_fronts [] (if ends then [] ∷ lines else with_front b lines) ≡ (if ends then [] ∷ lines else with_front b lines)
kept true b lines = refl
kept false b [] = refl
kept false b (line ∷ lines) = refl

pub with_fronts-nil : (text : List ℕ) → with_fronts [] (lines_of text) ≡ lines_of text
with_fronts-nil [] = refl
with_fronts-nil (b ∷ text) = kept (ends_line b) b (lines_of text)
