-- Which codes are explained, and how (docs/COMMANDS.md, "Failures" and "Refusals").
use Rattle.std.specs.Prelude.{◌≡◌, ◌+◌, ◌++◌, ◌∷◌, [], Contains, List, Option, codes, find, length, map, option_map, take, ℕ}
use Rattle.std.specs.Str.{bytes_eq}
use Rattle.command_explain.specs.declared.table_from_i.TheConstants.{EXPLANATIONS_FROM_I}
use Rattle.command_explain.specs.declared.table_to_h.TheConstants.{EXPLANATIONS_TO_H}

-- a code, and its text
abbrev pub Row : Type 0
Row = List ℕ × List ℕ

-- the codes: of assembly, publishing, texts, failures, compiling, configurations, words of instructions, threads, programs in
-- numbers, captures, versions, counters, opening, expressions, sockets, the verifier, and workers
abbrev pub codes_explained : List (List ℕ)
codes_explained =
    codes "A1" ∷ codes "A2" ∷ codes "A3" ∷ codes "A4" ∷ codes "A5" ∷ codes "A6" ∷
    codes "B1" ∷ codes "B2" ∷ codes "B3" ∷
    codes "C1" ∷ codes "C2" ∷ codes "C3" ∷
    codes "E1" ∷ codes "E2" ∷ codes "E3" ∷ codes "E4" ∷ codes "E5" ∷
    codes "F1" ∷ codes "F2" ∷ codes "F3" ∷
    codes "G1" ∷ codes "G2" ∷ codes "G3" ∷ codes "G4" ∷ codes "G5" ∷ codes "G6" ∷ codes "G7" ∷ codes "G8" ∷ codes "G9" ∷
    codes "H1" ∷
    codes "I1" ∷ codes "I2" ∷
    codes "J1" ∷ codes "J2" ∷
    codes "K1" ∷ codes "K2" ∷ codes "K3" ∷
    codes "L1" ∷ codes "L2" ∷ codes "L3" ∷ codes "L4" ∷ codes "L5" ∷
    codes "M1" ∷
    codes "N1" ∷
    codes "O1" ∷ codes "O2" ∷
    codes "P1" ∷ codes "P2" ∷ codes "P3" ∷ codes "P4" ∷ codes "P5" ∷ codes "P6" ∷
    codes "S1" ∷ codes "S2" ∷
    codes "V1" ∷ codes "V2" ∷ codes "V3" ∷ codes "V4" ∷ codes "V5" ∷ codes "V6" ∷ codes "V7" ∷ codes "V8" ∷ codes "V9" ∷ codes "V10" ∷ codes "V11" ∷
    codes "X1" ∷ codes "X2" ∷
    []

-- the tables
abbrev pub explanations_to_h : List Row
explanations_to_h = map (λ row. (row.0.now, row.1.now)) EXPLANATIONS_TO_H

abbrev pub explanations_from_i : List Row
explanations_from_i = map (λ row. (row.0.now, row.1.now)) EXPLANATIONS_FROM_I

abbrev pub explanations : List Row
explanations = explanations_to_h ++ explanations_from_i

-- a row of them has this code and this text
abbrev pub IsExplanation : List ℕ → List ℕ → Type 0
IsExplanation code text = Contains explanations (code, text)

-- the text begins with the code, a colon and a space
abbrev pub Explains : List ℕ → List ℕ → Type 0
Explains text code = take (length code + 2) text ≡ code ++ codes ": "

-- the text of the first row with this code
abbrev pub text_beside : List Row → List ℕ → Option (List ℕ)
text_beside rows code = option_map (λ row. row.1) (find (λ row. bytes_eq row.0 code) rows)
