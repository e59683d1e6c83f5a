-- The four fields of a word in decimal.
use Rattle.std.proofs.Common.{◌≡◌, ◌∙◌, ◌^◌, ◌<◌, ◌≤◌, ◌++◌, List, arith, decimal, inl, sym, ◌∷◌, ℕ}
use Rattle.std.proofs.lemmas.Fmt.{decimal_injective}
use Rattle.bpf_insn.specs.Word.{word}
use Rattle.ipv4_fields.proofs.TextLemmas.{number_parts}
use Rattle.bpf_formats.specs.Ddd.{SpellsFields}

-- a field in front of a space, and what stands behind the space, in one way
one_field : (n m : ℕ) (left rest : List ℕ) → n < 2 ^ 64 → m < 2 ^ 64 → decimal n ++ 32 ∷ left ≡ decimal m ++ 32 ∷ rest → (n ≡ m) × (left ≡ rest)
one_field n m left rest n_small m_small same = number_parts 32 n m left rest (inl (omega arith)) n_small m_small same

pub one_word : (item : List ℕ) (a b : ℕ) → SpellsFields item a → SpellsFields item b → a ≡ b
one_word item a b p q =
    let first = one_field p.code q.code (decimal p.jt ++ 32 ∷ (decimal p.jf ++ 32 ∷ decimal p.k)) (decimal q.jt ++ 32 ∷ (decimal q.jf ++ 32 ∷ decimal q.k)) (omega (arith, p.code_fits)) (omega (arith, q.code_fits)) (sym p.is_item ∙ q.is_item) in
    let second = one_field p.jt q.jt (decimal p.jf ++ 32 ∷ decimal p.k) (decimal q.jf ++ 32 ∷ decimal q.k) (omega (arith, p.jt_fits)) (omega (arith, q.jt_fits)) first.1 in
    let third = one_field p.jf q.jf (decimal p.k) (decimal q.k) (omega (arith, p.jf_fits)) (omega (arith, q.jf_fits)) second.1 in
    let fourth = decimal_injective p.k q.k (omega (arith, p.k_fits)) (omega (arith, q.k_fits)) third.1 in
    let same : word p.code p.jt p.jf p.k ≡ word q.code q.jt q.jf q.k = omega (arith, first.0, second.0, third.0, fourth) in
    p.is_word ∙ same ∙ sym q.is_word

module _ (item : List ℕ) (it : ℕ) (spelled : SpellsFields item it) where
  pub second_stands : (a : ℕ) (rest : List ℕ) → a ≤ 65535 → item ≡ decimal a ++ 32 ∷ rest → rest ≡ decimal spelled.jt ++ 32 ∷ (decimal spelled.jf ++ 32 ∷ decimal spelled.k)
  second_stands a rest small read =
      (one_field a spelled.code rest (decimal spelled.jt ++ 32 ∷ (decimal spelled.jf ++ 32 ∷ decimal spelled.k)) (omega arith) (omega (arith, spelled.code_fits)) (sym read ∙ spelled.is_item)).1

  pub third_stands : (a b : ℕ) (rest more : List ℕ) → a ≤ 65535 → b ≤ 255 → item ≡ decimal a ++ 32 ∷ rest → rest ≡ decimal b ++ 32 ∷ more → more ≡ decimal spelled.jf ++ 32 ∷ decimal spelled.k
  third_stands a b rest more a_small b_small read then_read =
      (one_field b spelled.jt more (decimal spelled.jf ++ 32 ∷ decimal spelled.k) (omega arith) (omega (arith, spelled.jt_fits)) (sym then_read ∙ second_stands a rest a_small read)).1

  pub fourth_stands : (a b c : ℕ) (rest more most : List ℕ) → a ≤ 65535 → b ≤ 255 → c ≤ 255 → item ≡ decimal a ++ 32 ∷ rest → rest ≡ decimal b ++ 32 ∷ more → more ≡ decimal c ++ 32 ∷ most → most ≡ decimal spelled.k
  fourth_stands a b c rest more most a_small b_small c_small read then_read last_read =
      (one_field c spelled.jf most (decimal spelled.k) (omega arith) (omega (arith, spelled.jf_fits)) (sym last_read ∙ third_stands a b rest more a_small b_small read then_read)).1

-- what is read of an item spells the word
pub spells : (item : List ℕ) (a b c k it : ℕ) (rest more most : List ℕ) → a ≤ 65535 → b ≤ 255 → c ≤ 255 → k ≤ 4294967295 → item ≡ decimal a ++ 32 ∷ rest → rest ≡ decimal b ++ 32 ∷ more → more ≡ decimal c ++ 32 ∷ most → most ≡ decimal k → it ≡ word a b c k → SpellsFields item it
spells item a b c k it rest more most a_small b_small c_small k_small first second third fourth is = record {
  code = a;
  jt = b;
  jf = c;
  k = k;
  code_fits = omega arith;
  jt_fits = omega arith;
  jf_fits = omega arith;
  k_fits = omega arith;
  is_item = cc;
  is_word = is;
}
