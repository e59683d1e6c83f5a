-- What the tree of comparisons does, and that it has no fault.
use Rattle.std.proofs.Common.{◌≡◌, ◌∙◌, ◌+◌, ◌-◌, ◌*◌, ◌<◌, ◌^◌, ◌≤◌, ◌++◌, ◌∷◌, List, None, [], ap, append_assoc, arith, cond, drop, get_or, length, length-append, refl, suc, sym, take, zero, ℕ, ⊎_elim}
use Rattle.std.specs.Prelude.{nat_le}
use Rattle.std.proofs.Math.Nat.{mul-pos, pow-suc}
use Rattle.std.proofs.Math.Pow.{pow_mono}
use Rattle.std.proofs.Math.Seq.{drop-append_seam}
use Rattle.std.proofs.lemmas.Bool.{cases_lt, le-leb, lt-leb, lt-ltb}
use Rattle.std.proofs.lemmas.List.{get_or-drop, get_or-take}
use Rattle.std.proofs.lemmas.Nat.{mul-add-lt, pow_pos}
use Rattle.bpf_insn.specs.declared.instruction.Insn.{Insn}
use Rattle.bpf_insn.specs.declared.instruction.Insn.TheVariants.{JumpIf, ReturnConstant}
use Rattle.bpf_insn.specs.declared.instruction.Operand.TheVariants.{K}
use Rattle.bpf_insn.specs.declared.instruction.Test.TheVariants.{GreaterOrEqual}
use Rattle.bpf_insn.specs.Table.{offsets}
use Rattle.bpf_insn.specs.Word.{FieldsFit, word_of}
use Rattle.bpf_insn.proofs.WordLemmas.{instruction_of-word_of}
use Rattle.bpf_verify.specs.Accepted.{EndsInReturn, targets_fault}
use Rattle.bpf_machine.specs.Meaning.{Cells, Ret, mean}
use Rattle.selector_buckets.specs.Words.{tree_words}
use Rattle.selector_buckets.proofs.PartLemmas.{IsPart, ends_append, ends_cons, no_part, part_append, part_cons}
use Rattle.selector_buckets.proofs.StepLemmas.{mean_first}

-- the test at the top of a tree with two halves of so many buckets
abbrev top : ℕ → ℕ → ℕ → Insn
top low width half = JumpIf GreaterOrEqual (K (low + half * width)) (offsets (2 * half - 1) 0)

-- the buckets of the tree are those of hashes, and each member is a byte
pub record Fits (depth low width : ℕ) (members : List ℕ) : Type 0 where
  pub limited : depth ≤ 8
  pub wide : 0 < width
  pub hashes : low + 2 ^ depth * width ≤ 2 ^ 32
  pub bytes : (bucket : ℕ) → bucket < 2 ^ depth → get_or members bucket 0 < 2 ^ 8

module _ (depth low width : ℕ) (members : List ℕ) (fits : Fits (suc depth) low width members) where
  abbrev half : ℕ
  half = 2 ^ depth

  doubled : 2 ^ suc depth ≡ half * 2
  doubled = pow-suc 2 depth

  few : half ≤ 128
  few = let limited = fits.limited in let below : depth ≤ 7 = omega arith in pow_mono below

  some : 0 < half
  some = pow_pos depth

  both : low + (half * 2) * width ≤ 2 ^ 32
  both = rw (← doubled) fits.hashes

  wide_half : 0 < half * width
  wide_half = mul-pos some fits.wide

  first_fits : Fits depth low width (take half members)
  first_fits = let limited = fits.limited in record {
    limited = omega arith;
    wide = fits.wide;
    hashes = omega (arith, both);
    bytes = λ bucket inside. rw (get_or-take half members bucket 0 inside) (fits.bytes bucket (omega (arith, doubled)));
  }

  second_fits : Fits depth (low + half * width) width (drop half members)
  second_fits = let limited = fits.limited in record {
    limited = omega arith;
    wide = fits.wide;
    hashes = omega (arith, both);
    bytes = λ bucket inside. rw (get_or-drop half members bucket 0) (fits.bytes (half + bucket) (omega (arith, doubled)));
  }

  top_fits : FieldsFit (top low width half)
  top_fits = (omega (arith, both, wide_half), omega (arith, few), omega arith)

-- ---- how long it is

pub length-tree_words : (depth low width : ℕ) (members : List ℕ) → length (tree_words depth low width members) + 1 ≡ 2 * 2 ^ depth
unfolding tree_words
length-tree_words zero low width members = refl
length-tree_words (suc depth) low width members =
    let first = length-tree_words depth low width (take (2 ^ depth) members) in
    let second = length-tree_words depth (low + 2 ^ depth * width) width (drop (2 ^ depth) members) in
    let whole = length-append (tree_words depth low width (take (2 ^ depth) members)) (tree_words depth (low + 2 ^ depth * width) width (drop (2 ^ depth) members)) in
    omega (arith, pow-suc 2 depth, first, second, whole)

pub tree_some : (depth low width : ℕ) (members : List ℕ) → 0 < length (tree_words depth low width members)
tree_some depth low width members = omega (arith, length-tree_words depth low width members, pow_pos depth)

-- ---- it has no fault

targets_inside : (len pc a b : ℕ) → a < len → b < len → targets_fault len pc (a ∷ b ∷ []) ≡ None
targets_inside len pc a b one two = rw (lt-ltb a len one) (rw (lt-ltb b len two) refl)

pub tree_part : (depth low width : ℕ) (members : List ℕ) → Fits depth low width members → IsPart (tree_words depth low width members)
unfolding tree_words
tree_part zero low width members fits =
    let byte = fits.bytes 0 (omega arith) in
    part_cons (word_of (ReturnConstant (get_or members 0 0))) (ReturnConstant (get_or members 0 0)) []
    (instruction_of-word_of (ReturnConstant (get_or members 0 0)) (omega arith)) (λ len before inside. refl, λ cell none. none) no_part
tree_part (suc depth) low width members fits =
    let one = first_fits depth low width members fits in
    let two = second_fits depth low width members fits in
    let first = tree_words depth low width (take (2 ^ depth) members) in
    let second = tree_words depth (low + 2 ^ depth * width) width (drop (2 ^ depth) members) in
    let long_first = length-tree_words depth low width (take (2 ^ depth) members) in
    let long_second = length-tree_words depth (low + 2 ^ depth * width) width (drop (2 ^ depth) members) in
    let there = some depth low width members fits in
    part_cons (word_of (top low width (2 ^ depth))) (top low width (2 ^ depth)) (first ++ second)
    (instruction_of-word_of (top low width (2 ^ depth)) (top_fits depth low width members fits)) (
      λ len before inside. targets_inside len (before + 0) (before + 0 + 1 + (2 * 2 ^ depth - 1)) (before + 0 + 1 + 0)
          (omega (arith, long_first, long_second, there, length-append first second)) (omega (arith, long_first, long_second, there, length-append first second)),
      λ cell none. none,
    )
    (part_append first second (tree_part depth low width (take (2 ^ depth) members) one) (tree_part depth (low + 2 ^ depth * width) width (drop (2 ^ depth) members) two))

pub tree_ends : (depth low width : ℕ) (members : List ℕ) → Fits depth low width members → EndsInReturn (tree_words depth low width members)
unfolding tree_words
tree_ends zero low width members fits =
    let byte = fits.bytes 0 (omega arith) in
    let insn = ReturnConstant (get_or members 0 0) in
    (insn, (word_of insn, refl, instruction_of-word_of insn (omega arith)), tt)
tree_ends (suc depth) low width members fits =
    let two = second_fits depth low width members fits in
    let first = tree_words depth low width (take (2 ^ depth) members) in
    let second = tree_words depth (low + 2 ^ depth * width) width (drop (2 ^ depth) members) in
    let there = tree_some depth (low + 2 ^ depth * width) width (drop (2 ^ depth) members) in
    ends_cons (word_of (top low width (2 ^ depth))) (first ++ second) (omega (arith, length-append first second))
    (ends_append first second there (tree_ends depth (low + 2 ^ depth * width) width (drop (2 ^ depth) members) two))

-- ---- it leads to the return of the hash's bucket

module _ (packet : List ℕ) (a x : ℕ) (cells : Cells) where
  module _ (depth low width : ℕ) (members rest : List ℕ) (fits : Fits (suc depth) low width members) where
    abbrev first : List ℕ
    first = tree_words depth low width (take (2 ^ depth) members)

    abbrev second : List ℕ
    second = tree_words depth (low + 2 ^ depth * width) width (drop (2 ^ depth) members)

    at_top : mean (tree_words (suc depth) low width members ++ rest) a x cells packet ≡ mean (drop (cond (nat_le (low + 2 ^ depth * width) a) (2 * 2 ^ depth - 1) 0) ((first ++ second) ++ rest)) a x cells packet
    unfolding tree_words
    at_top = mean_first (top low width (2 ^ depth)) ((first ++ second) ++ rest) a x cells packet (top_fits depth low width members fits)

    apart : (first ++ second) ++ rest ≡ first ++ (second ++ rest)
    apart = append_assoc first second rest

    goes_first : a < low + 2 ^ depth * width → mean (tree_words (suc depth) low width members ++ rest) a x cells packet ≡ mean (first ++ (second ++ rest)) a x cells packet
    goes_first below =
        at_top
        ∙ ap (λ b. mean (drop (cond b (2 * 2 ^ depth - 1) 0) ((first ++ second) ++ rest)) a x cells packet) (lt-leb (low + 2 ^ depth * width) a below)
        ∙ ap (λ words. mean words a x cells packet) apart

    goes_second : low + 2 ^ depth * width ≤ a → mean (tree_words (suc depth) low width members ++ rest) a x cells packet ≡ mean (second ++ rest) a x cells packet
    goes_second above =
        let long : 2 * 2 ^ depth - 1 ≡ length first = omega (arith, length-tree_words depth low width (take (2 ^ depth) members)) in
        at_top
        ∙ ap (λ b. mean (drop (cond b (2 * 2 ^ depth - 1) 0) ((first ++ second) ++ rest)) a x cells packet) (le-leb (low + 2 ^ depth * width) a above)
        ∙ ap (λ words. mean (drop (2 * 2 ^ depth - 1) words) a x cells packet) apart
        ∙ ap (λ n. mean (drop n (first ++ (second ++ rest))) a x cells packet) long
        ∙ ap (λ words. mean words a x cells packet) (drop-append_seam first (second ++ rest))

  at_leaf : (low width : ℕ) (members rest : List ℕ) → get_or members 0 0 < 2 ^ 8 → mean (tree_words zero low width members ++ rest) a x cells packet ≡ Ret (get_or members 0 0)
  unfolding tree_words
  at_leaf low width members rest byte = mean_first (ReturnConstant (get_or members 0 0)) rest a x cells packet (omega arith)

  pub tree_returns : (depth low width : ℕ) (members rest : List ℕ) (bucket part : ℕ) → Fits depth low width members → bucket < 2 ^ depth → part < width → a ≡ low + (bucket * width + part)
      → mean (tree_words depth low width members ++ rest) a x cells packet ≡ Ret (get_or members bucket 0)
  tree_returns zero low width members rest bucket part fits inside within is =
      let e : 0 ≡ bucket = omega arith in
      at_leaf low width members rest (fits.bytes 0 (omega arith)) ∙ ap (λ b. Ret (get_or members b 0)) e
  tree_returns (suc depth) low width members rest bucket part fits inside within is = ⊎_elim
      (λ low_half.
      let below : bucket * width + part < width * 2 ^ depth = mul-add-lt bucket width part (2 ^ depth) low_half within in
      goes_first depth low width members rest fits (omega arith)
      ∙ tree_returns depth low width (take (2 ^ depth) members) _ bucket part (first_fits depth low width members fits) low_half within is
      ∙ ap Ret (get_or-take (2 ^ depth) members bucket 0 low_half))
      (λ high_half.
      let next : bucket ≡ 2 ^ depth + (bucket - 2 ^ depth) = omega arith in
      let place : bucket * width ≡ (2 ^ depth + (bucket - 2 ^ depth)) * width = ap (λ b. b * width) next in
      let apart : a ≡ (low + 2 ^ depth * width) + ((bucket - 2 ^ depth) * width + part) = omega arith in
      let inside' : bucket - 2 ^ depth < 2 ^ depth = omega (arith, doubled depth low width members fits) in
      goes_second depth low width members rest fits (omega arith)
      ∙ tree_returns depth (low + 2 ^ depth * width) width (drop (2 ^ depth) members) rest (bucket - 2 ^ depth) part (second_fits depth low width members fits) inside' within apart
      ∙ ap Ret (get_or-drop (2 ^ depth) members (bucket - 2 ^ depth) 0 ∙ ap (λ b. get_or members b 0) (sym next)))
      (cases_lt bucket (2 ^ depth))
