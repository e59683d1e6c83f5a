-- The first row of a code, in a table.
use Rattle.std.proofs.Common.{◌≡◌, ◌∙◌, ◌<◌, ◌+◌, ◌++◌, ◌∷◌, ◌&&◌, [], ℕ, zero, suc, List, Bool, true, false, cond, Option, Some, None, is_some, ap, ap₂, arith, refl, sym, codes, length, map, slice_index_or, subst, take}
use Rattle.std.proofs.lemmas.Slice.Eq.{bytes_eq-Decides}
use Rattle.std.specs.Borrow.{Bor}
use Rattle.std.specs.List.{list_all}
use Rattle.std.specs.Prelude.{Contains, IfSome, find, option_map}
use Rattle.std.specs.Str.{bytes_eq}
use Rattle.command_explain.specs.Explanation.{Explains, Row, text_beside}

abbrev pub code_of : Row → List ℕ
code_of row = row.0

-- the text begins with the code of its row
abbrev pub begins : Row → Bool
begins row = bytes_eq (take (length row.0 + 2) row.1) (row.0 ++ codes ": ")

abbrev beside : Option Row → Option (List ℕ)
beside found = option_map (λ row. row.1) found

abbrev IsFound : Option (List ℕ) → Type 0
IsFound found = is_some found ≡ true

pub known_where_found : (rows : List Row) (code : List ℕ) → IsFound (text_beside rows code) → Contains (map code_of rows) code
known_where_found [] code found = cc
known_where_found (row ∷ rows) code found = go (bytes_eq row.0 code) refl (known_where_found rows code) found
  where
    go : (b : Bool) → bytes_eq row.0 code ≡ b → (IsFound (text_beside rows code) → Contains (map code_of rows) code)
        → IsFound (beside (cond b (Some row) (find (λ r. bytes_eq r.0 code) rows))) → Contains (map code_of (row ∷ rows)) code
    go true same later found = (0, omega arith, (bytes_eq-Decides row.0 code).0 same)
    go false differs later found =
        let rest = later found in
        let inside = rest.1 in
        (suc rest.0, omega arith, rest.2)

pub found_where_known : (rows : List Row) (code : List ℕ) → Contains (map code_of rows) code → IsFound (text_beside rows code)
found_where_known [] code known = let inside = known.1 in absurd (omega arith)
found_where_known (row ∷ rows) code known = go (bytes_eq row.0 code) refl (found_where_known rows code) known.0 known.1 known.2
  where
    go : (b : Bool) → bytes_eq row.0 code ≡ b → (Contains (map code_of rows) code → IsFound (text_beside rows code))
        → (k : ℕ) → k < length (map code_of (row ∷ rows)) → slice_index_or (map code_of (row ∷ rows)) k code ≡ code
        → IsFound (beside (cond b (Some row) (find (λ r. bytes_eq r.0 code) rows)))
    go true same later k inside is = refl
    go false differs later zero inside is =
        let bad : false ≡ true = sym differs ∙ (bytes_eq-Decides row.0 code).1 is in
        cc
    go false differs later (suc k) inside is = later (k, omega arith, is)

pub row_of_found : (rows : List Row) (code text : List ℕ) → text_beside rows code ≡ Some text → Contains rows (code, text)
row_of_found [] code text found = cc
row_of_found (row ∷ rows) code text found = go (bytes_eq row.0 code) refl (row_of_found rows code text) found
  where
    go : (b : Bool) → bytes_eq row.0 code ≡ b → (text_beside rows code ≡ Some text → Contains rows (code, text))
        → beside (cond b (Some row) (find (λ r. bytes_eq r.0 code) rows)) ≡ Some text → Contains (row ∷ rows) (code, text)
    go true same later found =
        let text_is : row.1 ≡ text = cc in
        (0, omega arith, ap₂ (λ (c t : List ℕ). (c, t)) ((bytes_eq-Decides row.0 code).0 same) text_is)
    go false differs later found =
        let rest = later found in
        let inside = rest.1 in
        (suc rest.0, omega arith, rest.2)

pub explains_what_is_found : (rows : List Row) (code text : List ℕ) → list_all begins rows ≡ true → text_beside rows code ≡ Some text → Explains text code
explains_what_is_found [] code text all found = cc
explains_what_is_found (row ∷ rows) code text all found = first (begins row) refl (explains_what_is_found rows code text) all
  where
    go : (b : Bool) → bytes_eq row.0 code ≡ b → begins row ≡ true → (text_beside rows code ≡ Some text → Explains text code)
        → beside (cond b (Some row) (find (λ r. bytes_eq r.0 code) rows)) ≡ Some text → Explains text code
    go true same now later found =
        let text_is : row.1 ≡ text = cc in
        let code_is : row.0 ≡ code = (bytes_eq-Decides row.0 code).0 same in
        let explained : Explains row.1 row.0 = (bytes_eq-Decides _ _).0 now in
        subst (λ t. Explains t code) text_is (subst (λ c. Explains row.1 c) code_is explained)
    go false differs now later found = later found

    first : (b : Bool) → begins row ≡ b → (list_all begins rows ≡ true → text_beside rows code ≡ Some text → Explains text code)
        → (b && list_all begins rows) ≡ true → Explains text code
    first true now later all = go (bytes_eq row.0 code) refl now (later all) found
    first false now later all = cc

-- what holds of the text of an answer
pub if_some : (P : List ℕ → Type 0) (answer : Option (Bor (List ℕ))) (known : Option (List ℕ)) → option_map (λ text. text.now) answer ≡ known
    → ((text : List ℕ) → known ≡ Some text → P text) → IfSome answer (λ text. P text.now)
if_some P None known same holds = tt
if_some P (Some text) known same holds = holds text.now (sym same)

pub is_some_alike : (answer : Option (Bor (List ℕ))) (known : Option (List ℕ)) → option_map (λ text. text.now) answer ≡ known
    → is_some answer ≡ is_some known
is_some_alike None known same = ap is_some same
is_some_alike (Some text) known same = ap is_some same

-- ---- two tables, one behind the other

pub beside_front : (front back : List Row) (code text : List ℕ) → text_beside front code ≡ Some text → text_beside (front ++ back) code ≡ Some text
beside_front [] back code text found = cc
beside_front (row ∷ front) back code text found = go (bytes_eq row.0 code) (beside_front front back code text) found
  where
    go : (b : Bool) → (text_beside front code ≡ Some text → text_beside (front ++ back) code ≡ Some text)
        → beside (cond b (Some row) (find (λ r. bytes_eq r.0 code) front)) ≡ Some text
        → beside (cond b (Some row) (find (λ r. bytes_eq r.0 code) (front ++ back))) ≡ Some text
    go true later found = found
    go false later found = later found

pub beside_back : (front back : List Row) (code : List ℕ) → text_beside front code ≡ None → text_beside (front ++ back) code ≡ text_beside back code
beside_back [] back code none = refl
beside_back (row ∷ front) back code none = go (bytes_eq row.0 code) (beside_back front back code) none
  where
    go : (b : Bool) → (text_beside front code ≡ None → text_beside (front ++ back) code ≡ text_beside back code)
        → beside (cond b (Some row) (find (λ r. bytes_eq r.0 code) front)) ≡ None
        → beside (cond b (Some row) (find (λ r. bytes_eq r.0 code) (front ++ back))) ≡ text_beside back code
    go true later none = cc
    go false later none = later none
