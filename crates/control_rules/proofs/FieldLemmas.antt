-- Cutting a text at each space.
use Rattle.std.proofs.Common.{◌≡◌, ◌≢◌, ◌==◌, ◌∙◌, ◌∷◌, ◌++◌, List, [], ap, arith, false, inl, inr, refl, suc, ℕ}
use Rattle.std.proofs.lemmas.Bool.{cases_Bool, ne_eqb}
use Rattle.ipv4_fields.specs.Cut.{IsSplitAt, Lacks}
use Rattle.control_line.specs.Request.{spaced}
use Rattle.control_line.specs.Rules.{grow_first}
use Rattle.control_rules.specs.Fields.{fields_in}

lacks-tail : (x : ℕ) (text : List ℕ) → Lacks 32 (x ∷ text) → Lacks 32 text
lacks-tail x text lacks k inside = lacks (suc k) (omega arith)

no_space : (x : ℕ) (text : List ℕ) → Lacks 32 (x ∷ text) → (x == 32) ≡ false
no_space x text lacks = ne_eqb x 32 (lacks 0 (omega arith))

pub fields-cut : (field rest : List ℕ) → Lacks 32 field → fields_in (field ++ 32 ∷ rest) ≡ field ∷ fields_in rest
fields-cut [] rest lacks = refl
fields-cut (x ∷ field) rest lacks =
    simp (no_space x field lacks) (ap (grow_first x) (fields-cut field rest (lacks-tail x field lacks)))

pub fields-last : (field : List ℕ) → Lacks 32 field → fields_in field ≡ field ∷ []
fields-last [] lacks = refl
fields-last (x ∷ field) lacks =
    simp (no_space x field lacks) (ap (grow_first x) (fields-last field (lacks-tail x field lacks)))

pub fields-split : (text field rest : List ℕ) → IsSplitAt 32 text field rest → fields_in text ≡ field ∷ fields_in rest
fields-split text field rest cut = ap fields_in cut.whole ∙ fields-cut field rest cut.lacks

-- each of them has no space
abbrev pub AllLack : List (List ℕ) → Type 0
AllLack [] = Unit {0}
AllLack (field ∷ fields) = Lacks 32 field × AllLack fields

pub fields-spaced : (first : List ℕ) (fields : List (List ℕ)) → AllLack (first ∷ fields) → fields_in (spaced (first ∷ fields)) ≡ first ∷ fields
fields-spaced first [] lacks = fields-last first lacks.0
fields-spaced first (next ∷ more) lacks =
    fields-cut first (spaced (next ∷ more)) lacks.0 ∙ ap (λ rest. first ∷ rest) (fields-spaced next more lacks.1)

-- a text has a field
some_front : (x : ℕ) (fields : List (List ℕ)) → grow_first x fields ≢ []
some_front x [] none = cc
some_front x (field ∷ fields) none = cc

pub some_field : (text : List ℕ) → fields_in text ≢ []
some_field [] none = cc
some_field (x ∷ text) none = elim (cases_Bool (x == 32)) [
  | inl space ↦ let it : [] ∷ fields_in text ≡ [] = rw space at none in cc
  | inr other ↦ some_front x (fields_in text) (rw other at none)
]
