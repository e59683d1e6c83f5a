-- The whole selector.
use Rattle.std.proofs.Common.{◌≡◌, ◌∙◌, ◌+◌, ◌*◌, ◌/◌, ◌%◌, ◌<◌, ◌^◌, ◌≤◌, ◌++◌, List, [], ap, arith, length, length-append, suc, sym, zero, ℕ}
use Rattle.std.proofs.Math.Nat.{div-lt_iff_lt-mul, mod-lt}
use Rattle.std.proofs.Math.Pow.{pow_mono}
use Rattle.std.proofs.lemmas.List.{append-nil}
use Rattle.std.proofs.lemmas.Nat.{div-add-mod'}
use Rattle.bpf_verify.specs.Accepted.{IsAccepted}
use Rattle.bpf_machine.specs.Meaning.{mean, no_cells}
use Rattle.selector_buckets.specs.declared.hash.HashBy.{HashBy}
use Rattle.selector_buckets.specs.Buckets.{BucketsValue, IsTable}
use Rattle.selector_buckets.specs.Hash.{Selects, hash_of, width_of}
use Rattle.selector_buckets.specs.Words.{hash_words, selector_words, tree_words}
use Rattle.selector_buckets.proofs.HashLemmas.{few_hash_words, hash_part, hashed}
use Rattle.selector_buckets.proofs.PartLemmas.{ends_append, part_accepted}
use Rattle.selector_buckets.proofs.WidthLemmas.{whole_width}
use Rattle.selector_buckets.proofs.TreeLemmas.{Fits, length-tree_words, tree_ends, tree_part, tree_returns, tree_some}

wide : (n width : ℕ) → n * width ≡ 2 ^ 32 → 0 < width
wide n zero is = absurd (omega arith)
wide n (suc width) is = omega arith

bucket_below : (hash n width : ℕ) → n * width ≡ 2 ^ 32 → hash < 2 ^ 32 → hash / width < n
bucket_below hash n width is low = (div-lt_iff_lt-mul {k = width} {x = hash} {y = n} (wide n width is)).1 (omega (arith, is))

module _ (by : HashBy) (buckets : BucketsValue) (table : IsTable buckets) where
  abbrev width : ℕ
  width = width_of (length buckets.members)

  whole : 2 ^ buckets.depth * width ≡ 2 ^ 32
  whole = ap (λ n. 2 ^ buckets.depth * width_of n) table.whole ∙ whole_width buckets.depth table.limited

  fits : Fits buckets.depth 0 width buckets.members
  fits = record {
    limited = table.limited;
    wide = wide (2 ^ buckets.depth) width whole;
    hashes = omega (arith, whole);
    bytes = λ bucket inside. table.bytes bucket;
  }

  abbrev tree : List ℕ
  tree = tree_words buckets.depth 0 width buckets.members

  pub selector_selects : Selects by buckets.members (selector_words by buckets)
  selector_selects packet dispatched =
      let begin = hashed packet dispatched by tree in
      let hash = hash_of by packet in
      let low : hash < 2 ^ 32 = omega arith in
      let is : hash ≡ 0 + (hash / width * width + hash % width) = omega (arith, div-add-mod' hash width) in
      begin.1
      ∙ ap (λ words. mean words hash begin.0 no_cells packet) (sym (append-nil tree))
      ∙ tree_returns packet hash begin.0 no_cells buckets.depth 0 width buckets.members [] (hash / width) (hash % width) fits
      (bucket_below hash (2 ^ buckets.depth) width whole low) (mod-lt hash (wide (2 ^ buckets.depth) width whole)) is

  pub selector_length : length (selector_words by buckets) ≤ 2 * length buckets.members + 16
  selector_length = omega (arith, length-append (hash_words by) tree, few_hash_words by, length-tree_words buckets.depth 0 width buckets.members, table.whole)

  pub selector_accepted : IsAccepted (selector_words by buckets)
  selector_accepted =
      let limited = table.limited in
      let few : 2 ^ buckets.depth ≤ 2 ^ 8 = pow_mono limited in
      let there = tree_some buckets.depth 0 width buckets.members in
      part_accepted (selector_words by buckets) (hash_part by tree (tree_part buckets.depth 0 width buckets.members fits))
      (ends_append (hash_words by) tree there (tree_ends buckets.depth 0 width buckets.members fits)) (omega (arith, length-append (hash_words by) tree))
      (omega (arith, length-append (hash_words by) tree, few_hash_words by, length-tree_words buckets.depth 0 width buckets.members))

-- the words, as they are written
pub selector_written : (by : HashBy) (buckets : BucketsValue) (start first all members : List ℕ) (depth width : ℕ)
    → start ≡ [] → first ≡ start ++ hash_words by → all ≡ first ++ tree_words depth 0 width members
    → depth ≡ buckets.depth → width ≡ width_of (length buckets.members) → members ≡ buckets.members → all ≡ selector_words by buckets
selector_written by buckets start first all members depth width empty push1 push2 depth_is width_is members_are =
    push2
    ∙ (ap (λ xs. xs ++ tree_words depth 0 width members) (push1 ∙ ap (λ s. s ++ hash_words by) empty)
    ∙ (ap (λ d. hash_words by ++ tree_words d 0 width members) depth_is
    ∙ (ap (λ w. hash_words by ++ tree_words buckets.depth 0 w members) width_is ∙ ap (λ m. hash_words by ++ tree_words buckets.depth 0 (width_of (length buckets.members)) m) members_are)))
