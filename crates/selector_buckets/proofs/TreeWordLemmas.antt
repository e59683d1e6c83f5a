-- The words of a tree, as they are written.
use Rattle.std.proofs.Common.{◌≡◌, ◌∙◌, ◌+◌, ◌-◌, ◌*◌, ◌/◌, ◌<◌, ◌^◌, ◌≤◌, ◌++◌, ◌∷◌, List, [], ap, append_assoc, arith, drop, get_or, length, refl, suc, sym, take, zero, ℕ}
use Rattle.std.proofs.Math.Nat.{mul-pos, pow-suc}
use Rattle.std.proofs.Math.Pow.{pow_mono}
use Rattle.std.proofs.Math.Seq.{take-length}
use Rattle.std.proofs.lemmas.List.{length-drop, length-take-le}
use Rattle.std.proofs.lemmas.Nat.{pow_pos}
use Rattle.bpf_insn.specs.declared.instruction.Insn.TheVariants.{JumpIf, ReturnConstant}
use Rattle.bpf_insn.specs.declared.instruction.Operand.TheVariants.{K}
use Rattle.bpf_insn.specs.declared.instruction.Test.TheVariants.{GreaterOrEqual}
use Rattle.bpf_insn.specs.Table.{offsets}
use Rattle.bpf_insn.specs.Word.{word_of}
use Rattle.selector_buckets.specs.Words.{tree_words}

pub tree_words-leaf : (depth low width : ℕ) (members : List ℕ) → depth ≡ 0 → tree_words depth low width members ≡ word_of (ReturnConstant (get_or members 0 0)) ∷ []
unfolding tree_words
tree_words-leaf depth low width members e = ap (λ d. tree_words d low width members) e

pub tree_words-node : (depth half low width middle : ℕ) (members : List ℕ) → 0 < depth → half ≡ 2 ^ (depth - 1) → middle ≡ low + half * width
    → tree_words depth low width members ≡ word_of (JumpIf GreaterOrEqual (K middle) (offsets (2 * half - 1) 0)) ∷ (tree_words (depth - 1) low width (take half members) ++ tree_words (depth - 1) middle width (drop half members))
unfolding tree_words
tree_words-node zero half low width middle members some is place = absurd (omega arith)
tree_words-node (suc depth) half low width middle members some is place =
    let before : suc depth - 1 ≡ depth = omega arith in
    let half_is : half ≡ 2 ^ depth = is ∙ ap (λ d. 2 ^ d) before in
    let middle_is : middle ≡ low + 2 ^ depth * width = place ∙ ap (λ h. low + h * width) half_is in
    rw (before, half_is, middle_is) refl

-- half of a table of more than one bucket
pub halves : (depth n : ℕ) → (depth ≡ 0 → ⊥) → n ≡ 2 ^ depth → (n / 2 ≡ 2 ^ (depth - 1)) × (n ≡ 2 * 2 ^ (depth - 1))
halves zero n some whole = absurd (some refl)
halves (suc depth) n some whole =
    let before : suc depth - 1 ≡ depth = omega arith in
    let doubled : n ≡ 2 ^ depth * 2 = whole ∙ pow-suc 2 depth in
    rw before (omega arith, omega arith)

module _ (depth low width : ℕ) (members : List ℕ) (limited : depth ≤ 8) (some : depth ≡ 0 → ⊥) (whole : length members ≡ 2 ^ depth) where
  abbrev half : ℕ
  half = length members / 2

  half_is : half ≡ 2 ^ (depth - 1)
  half_is = (halves depth (length members) some whole).0

  both_is : length members ≡ 2 * 2 ^ (depth - 1)
  both_is = (halves depth (length members) some whole).1

  pub half_small : (0 < half) × (half ≤ 128)
  half_small =
      let below : depth - 1 ≤ 7 = omega arith in
      let small : 2 ^ (depth - 1) ≤ 2 ^ 7 = pow_mono below in
      (omega (arith, half_is, pow_pos (depth - 1)), omega (arith, half_is))

  pub first_half : length (take half members) ≡ 2 ^ (depth - 1)
  first_half = length-take-le half members (omega arith) ∙ half_is

  second_whole : take (length members - half) (drop half members) ≡ drop half members
  second_whole = let long : length members - half ≡ length (drop half members) = sym (length-drop half members) in rw long (take-length (drop half members))

  pub second_half : length (take (length members - half) (drop half members)) ≡ 2 ^ (depth - 1)
  second_half = ap length second_whole ∙ (length-drop half members ∙ (let g : length members - half ≡ 2 ^ (depth - 1) = omega (arith, half_is, both_is) in g))

  module _ (fits : low + 2 ^ depth * width ≤ 2 ^ 32) where
    both_fit : low + 2 * 2 ^ (depth - 1) * width ≤ 2 ^ 32
    both_fit = let e : 2 ^ depth ≡ 2 * 2 ^ (depth - 1) = sym whole ∙ both_is in rw (← e) fits

    pub first_fits : low + 2 ^ (depth - 1) * width ≤ 2 ^ 32
    first_fits = omega (arith, both_fit)

    half_width : half * width ≡ 2 ^ (depth - 1) * width
    half_width = ap (λ h. h * width) half_is

    pub second_fits : (low + half * width) + 2 ^ (depth - 1) * width ≤ 2 ^ 32
    second_fits = omega (arith, both_fit, half_width)

    pub middle_fits : 0 < width → low + half * width < 2 ^ 32
    middle_fits wide = let more : 0 < 2 ^ (depth - 1) * width = mul-pos (pow_pos (depth - 1)) wide in omega (arith, both_fit, half_width)

  pub pushed_node : (old one two three : List ℕ) (word : ℕ)
      → word ≡ word_of (JumpIf GreaterOrEqual (K (low + half * width)) (offsets (2 * half - 1) 0))
      → one ≡ old ++ word ∷ []
      → two ≡ one ++ tree_words (depth - 1) low width (take half members)
      → three ≡ two ++ tree_words (depth - 1) (low + half * width) width (take (length members - half) (drop half members))
      → three ≡ old ++ tree_words depth low width members
  pushed_node old one two three word is push1 push2 push3 =
      let first = tree_words (depth - 1) low width (take half members) in
      let second = tree_words (depth - 1) (low + half * width) width (drop half members) in
      let more : 0 < depth = omega arith in
      push3
      ∙ ap (λ xs. two ++ tree_words (depth - 1) (low + half * width) width xs) second_whole
      ∙ ap (λ xs. xs ++ second) (push2 ∙ ap (λ xs. xs ++ first) push1)
      ∙ append_assoc (old ++ word ∷ []) first second
      ∙ append_assoc old (word ∷ []) (first ++ second)
      ∙ ap (λ w. old ++ (w ∷ (first ++ second))) is
      ∙ ap (λ xs. old ++ xs) (sym (tree_words-node depth half low width (low + half * width) members more half_is refl))
