-- The last LF of a script, which the script may lack.
use Rattle.std.proofs.Common.{◌≡◌, ◌∙◌, ◌++◌, ◌∷◌, ◌⊎◌, ◌==◌, if◌then◌else◌, Bool, List, [], ap, append_assoc, arith, false, inl, inr, refl, suc, sym, true, ℕ}
use Rattle.std.proofs.lemmas.Bool.{eqb-true}
use Rattle.std.proofs.lemmas.List.{same_from_push}
use Rattle.ipv4_fields.specs.Cut.{Lacks}
use Rattle.control.specs.Script.{with_last_lf}

-- ---- where it is

-- only the end of the script decides
pub lf_at_end : (front : List ℕ) (byte : ℕ) (rest : List ℕ) → with_last_lf (front ++ byte ∷ rest) ≡ front ++ with_last_lf (byte ∷ rest)
lf_at_end [] byte rest = refl
lf_at_end (x ∷ []) byte rest = refl
lf_at_end (x ∷ y ∷ front) byte rest = ap (λ t. x ∷ t) (lf_at_end (y ∷ front) byte rest)

pub lf_there : (front : List ℕ) → with_last_lf (front ++ 10 ∷ []) ≡ front ++ 10 ∷ []
lf_there front = lf_at_end front 10 []

pub lf_added : (byte : ℕ) (line : List ℕ) → Lacks 10 (byte ∷ line) → with_last_lf (byte ∷ line) ≡ (byte ∷ line) ++ 10 ∷ []
lf_added byte [] lacks = by (byte == 10) refl
  where
    by : (is : Bool) → (byte == 10) ≡ is → (if is then 10 ∷ [] else byte ∷ 10 ∷ []) ≡ byte ∷ 10 ∷ []
    by true same = absurd (lacks 0 (omega arith) (eqb-true byte 10 same))
    by false other = refl
lf_added byte (next ∷ line) lacks = ap (λ t. byte ∷ t) (lf_added next line (λ k inside. lacks (suc k) (omega arith)))

pub lf_in_part : (front part request : List ℕ) → with_last_lf part ≡ request ++ 10 ∷ [] → with_last_lf (front ++ part) ≡ front ++ (request ++ 10 ∷ [])
lf_in_part front [] request is = absurd (not_nil request is)
  where
    not_nil : (request : List ℕ) → [] ≡ request ++ 10 ∷ [] → ⊥
    not_nil [] is = cc is
    not_nil (x ∷ request) is = cc is
lf_in_part front (x ∷ part) request is = lf_at_end front x part ∙ ap (λ t. front ++ t) is

-- ---- what it changes

last_lf : (script : List ℕ) → (with_last_lf script ≡ script) ⊎ (with_last_lf script ≡ script ++ 10 ∷ [])
last_lf [] = inl refl
last_lf (x ∷ []) = by (x == 10) refl
  where
    by : (is : Bool) → (x == 10) ≡ is → ((if is then 10 ∷ [] else x ∷ 10 ∷ []) ≡ x ∷ []) ⊎ ((if is then 10 ∷ [] else x ∷ 10 ∷ []) ≡ x ∷ 10 ∷ [])
    by true same = inl (ap (λ b. b ∷ []) (sym (eqb-true x 10 same)))
    by false other = inr refl
last_lf (x ∷ y ∷ rest) = with_first (last_lf (y ∷ rest))
  where
    with_first : (with_last_lf (y ∷ rest) ≡ y ∷ rest) ⊎ (with_last_lf (y ∷ rest) ≡ (y ∷ rest) ++ 10 ∷ []) →
        (x ∷ with_last_lf (y ∷ rest) ≡ x ∷ y ∷ rest) ⊎ (x ∷ with_last_lf (y ∷ rest) ≡ (x ∷ y ∷ rest) ++ 10 ∷ [])
    with_first (inl same) = inl (ap (λ t. x ∷ t) same)
    with_first (inr more) = inr (ap (λ t. x ∷ t) more)

pub record Pushed (text : List ℕ) : Type 0 where
  pub front : List ℕ
  pub byte : ℕ
  pub is : text ≡ front ++ byte ∷ []

pub pushed : (byte : ℕ) (rest : List ℕ) → Pushed (byte ∷ rest)
pushed byte [] = record { front = []; byte = byte; is = refl }
pushed byte (next ∷ rest) = let last = pushed next rest in record { front = byte ∷ last.front; byte = last.byte; is = ap (λ t. byte ∷ t) last.is }

-- what stands before an LF is a part of the script
pub part_of_script : (script front line back : List ℕ) → with_last_lf script ≡ front ++ (line ++ 10 ∷ back) → (rest : List ℕ) × (script ≡ front ++ (line ++ rest))
part_of_script script front line back is = by (last_lf script)
  where
    by : (with_last_lf script ≡ script) ⊎ (with_last_lf script ≡ script ++ 10 ∷ []) → (rest : List ℕ) × (script ≡ front ++ (line ++ rest))
    by (inl same) = (10 ∷ back, sym same ∙ is)
    by (inr more) =
        let last = pushed 10 back in
        let all : script ++ 10 ∷ [] ≡ (front ++ (line ++ last.front)) ++ last.byte ∷ [] =
        sym more ∙ (is ∙ (ap (λ t. front ++ (line ++ t)) last.is ∙ (ap (λ t. front ++ t) (sym (append_assoc line last.front (last.byte ∷ []))) ∙ sym (append_assoc front (line ++ last.front) (last.byte ∷ []))))) in
        (last.front, (same_from_push script (front ++ (line ++ last.front)) 10 last.byte all).0)
