-- Parts of a program that have no fault wherever they are, and load no scratch cell.
use Rattle.std.proofs.Common.{◌≡◌, ◌∙◌, ◌+◌, ◌-◌, ◌<◌, ◌≤◌, ◌++◌, ◌∷◌, List, None, Ok, [], ap, arith, length, length-append, refl, subst, suc, zero, ℕ, ⊎_elim}
use Rattle.std.specs.Prelude.{slice_get}
use Rattle.std.proofs.lemmas.Bool.{cases_lt}
use Rattle.std.proofs.lemmas.Option.{slice_get_within}
use Rattle.bpf_insn.specs.declared.instruction.Insn.{Insn}
use Rattle.bpf_insn.specs.Word.{instruction_of}
use Rattle.bpf_verify.specs.Accepted.{EndsInReturn, IsAccepted, instruction_fault, word_fault}
use Rattle.bpf_verify.specs.Path.{IsAt, Loads}
use Rattle.bpf_verify.proofs.PlaceLemmas.{IsAt-unique}

-- the instruction at pc of so many words has no fault in a program that has the words, and loads no cell
abbrev pub Harmless : Insn → ℕ → ℕ → Type 0
Harmless insn long pc =
    ((len before : ℕ) → before + long ≤ len → instruction_fault len (before + pc) insn ≡ None) × ((cell : ℕ) → Loads insn cell → ⊥)

abbrev pub IsPart : List ℕ → Type 0
IsPart words = (pc : ℕ) → pc < length words → (insn : Insn) × IsAt words pc insn × Harmless insn (length words) pc

slice_get-left : (first second : List ℕ) (pc : ℕ) → pc < length first → slice_get (first ++ second) pc ≡ slice_get first pc
slice_get-left [] second pc inside = absurd (omega arith)
slice_get-left (word ∷ first) second zero inside = refl
slice_get-left (word ∷ first) second (suc pc) inside = slice_get-left first second pc (omega arith)

slice_get-right : (first second : List ℕ) (pc : ℕ) → slice_get (first ++ second) (length first + pc) ≡ slice_get second pc
slice_get-right [] second pc = ap (slice_get second) (let g : 0 + pc ≡ pc = omega arith in g)
slice_get-right (word ∷ first) second pc =
    ap (slice_get (word ∷ (first ++ second))) (let g : suc (length first) + pc ≡ suc (length first + pc) = omega arith in g) ∙ slice_get-right first second pc

pub no_part : IsPart []
no_part pc inside = absurd (omega arith)

pub part_cons : (word : ℕ) (insn : Insn) (words : List ℕ) → instruction_of word ≡ Ok insn → Harmless insn (suc (length words)) 0 → IsPart words → IsPart (word ∷ words)
part_cons word insn words is harmless part zero inside = (insn, (word, refl, is), harmless)
part_cons word insn words is harmless part (suc pc) inside = let t = part pc (omega arith) in (
  t.0,
  t.1,
  (
    λ len before fits. subst (λ n. instruction_fault len n t.0 ≡ None) (let g : (before + 1) + pc ≡ before + suc pc = omega arith in g) (t.2.0 len (before + 1) (omega arith)),
    t.2.1,
  ),
)

module _ (first second : List ℕ) (one : IsPart first) (two : IsPart second) where
  in_first : (pc : ℕ) → pc < length first → (insn : Insn) × IsAt (first ++ second) pc insn × Harmless insn (length (first ++ second)) pc
  in_first pc low = let t = one pc low in (
    t.0,
    (t.1.0, slice_get-left first second pc low ∙ t.1.1, t.1.2),
    (λ len before fits. t.2.0 len before (omega (arith, length-append first second)), t.2.1),
  )

  in_second : (pc : ℕ) → pc < length second → (insn : Insn) × IsAt (first ++ second) (length first + pc) insn × Harmless insn (length (first ++ second)) (length first + pc)
  in_second pc low = let t = two pc low in (
    t.0,
    (t.1.0, slice_get-right first second pc ∙ t.1.1, t.1.2),
    (
      λ len before fits. subst (λ n. instruction_fault len n t.0 ≡ None) (let g : (before + length first) + pc ≡ before + (length first + pc) = omega arith in g)
          (t.2.0 len (before + length first) (omega (arith, length-append first second))),
      t.2.1,
    ),
  )

  pub part_append : IsPart (first ++ second)
  part_append pc inside = ⊎_elim (in_first pc)
      (λ up. let e : length first + (pc - length first) ≡ pc = omega arith in
      subst (λ n. (insn : Insn) × IsAt (first ++ second) n insn × Harmless insn (length (first ++ second)) n) e
      (in_second (pc - length first) (omega (arith, length-append first second)))) (cases_lt pc (length first))

pub ends_cons : (word : ℕ) (words : List ℕ) → 0 < length words → EndsInReturn words → EndsInReturn (word ∷ words)
ends_cons word words some ends = (
  ends.0,
  subst (λ n. IsAt (word ∷ words) n ends.0) (let g : suc (length words - 1) ≡ suc (length words) - 1 = omega arith in g) ends.1,
  ends.2,
)

pub ends_append : (first second : List ℕ) → 0 < length second → EndsInReturn second → EndsInReturn (first ++ second)
ends_append [] second some ends = ends
ends_append (word ∷ first) second some ends =
    ends_cons word (first ++ second) (omega (arith, length-append first second)) (ends_append first second some ends)

pub part_accepted : (program : List ℕ) → IsPart program → EndsInReturn program → 0 < length program → length program ≤ 4096 → IsAccepted program
part_accepted program part ends some few = record {
  not_empty = some;
  not_too_long = few;
  faultless = λ pc inside. let t = part pc inside in (t.1.0, t.1.1, ap (word_fault (length program) pc) t.1.2 ∙ (subst (λ n. instruction_fault (length program) n t.0 ≡ None) (let g : 0 + pc ≡ pc = omega arith in g) (t.2.0 (length program) 0 (omega arith))));
  ends_in_return = ends;
  stores_before = λ pc cell loads earlier path.
      let t = part pc (slice_get_within program pc loads.1.0 loads.1.1) in
      absurd (t.2.1 cell (subst (λ insn. Loads insn cell) (IsAt-unique program pc loads.0 t.0 loads.1 t.1) loads.2));
}
