-- What is read from a selector is its table.
use Rattle.std.proofs.Common.{◌≡◌, ◌∙◌, ◌+◌, ◌-◌, ◌*◌, ◌/◌, ◌%◌, ◌<◌, ◌^◌, ◌≤◌, ◌++◌, ◌∷◌, List, [], ap, append_assoc, arith, cond, drop, false, get_or, length, length-append, refl, subst, suc, sym, take, zero, ℕ, ⊎_elim}
use Rattle.std.specs.Prelude.{nat_eq}
use Rattle.std.proofs.Math.Nat.{pow-suc}
use Rattle.std.proofs.Math.Pow.{pow-lt}
use Rattle.std.proofs.Math.Seq.{drop-append_seam, take-append_seam, take-length}
use Rattle.std.proofs.lemmas.Bool.{cases_lt, ne_eqb}
use Rattle.std.proofs.lemmas.List.{get_or-drop, get_or-take, get_or_past, length-drop, length-take, length-take-le, take-append-drop}
use Rattle.bpf_insn.specs.declared.instruction.Insn.TheVariants.{CopyToX, ReturnConstant}
use Rattle.bpf_insn.specs.Word.{word_of}
use Rattle.selector_buckets.specs.declared.hash.HashBy.{HashBy}
use Rattle.selector_buckets.specs.declared.hash.HashBy.TheVariants.{Addresses, Both, Ports}
use Rattle.selector_buckets.specs.Buckets.{BucketsValue, IsTable}
use Rattle.selector_buckets.specs.Hash.{width_of}
use Rattle.selector_buckets.specs.Reading.{HasOneTable, IsSelectorOf}
use Rattle.selector_buckets.specs.Words.{hash_words, selector_words, tree_words}
use Rattle.selector_buckets.specs.body.Reading.{by_of, leaves}
use Rattle.selector_buckets.proofs.TreeWordLemmas.{halves}
use Rattle.selector_buckets.proofs.TreeLemmas.{length-tree_words, tree_some}

-- ---- what is hashed

-- the first word of a tree is no copy of A
first_of_tree : (depth low width : ℕ) (members : List ℕ) → get_or members 0 0 < 2 ^ 8 → nat_eq (get_or (tree_words depth low width members) 0 0) (word_of CopyToX) ≡ false
unfolding tree_words
first_of_tree zero low width members byte = ne_eqb (word_of (ReturnConstant (get_or members 0 0))) (word_of CopyToX) (λ e. omega arith)
first_of_tree (suc depth) low width members byte = ne_eqb _ (word_of CopyToX) (λ e. omega arith)

pub by_of-selector : (by : HashBy) (buckets : BucketsValue) → IsTable buckets → by_of (selector_words by buckets) ≡ by
by_of-selector Addresses buckets table = refl
by_of-selector Both buckets table = refl
by_of-selector Ports buckets table =
    ap (λ b. cond b Both Ports) (first_of_tree buckets.depth 0 (width_of (length buckets.members)) buckets.members (table.bytes 0))

-- ---- the tree

pub tree_of-selector : (by : HashBy) (buckets : BucketsValue) → drop (length (hash_words by)) (selector_words by buckets) ≡ tree_words buckets.depth 0 (width_of (length buckets.members)) buckets.members
tree_of-selector by buckets = drop-append_seam (hash_words by) (tree_words buckets.depth 0 (width_of (length buckets.members)) buckets.members)

pub one_depth : (a b : ℕ) → 2 * 2 ^ a ≡ 2 * 2 ^ b → a ≡ b
one_depth a b same = ⊎_elim
    (λ less. let apart : 2 ^ a < 2 ^ b = pow-lt less in absurd (omega arith))
    (λ more. ⊎_elim (λ less. let apart : 2 ^ b < 2 ^ a = pow-lt less in absurd (omega arith)) (λ most. omega arith) (cases_lt b a)) (cases_lt a b)

-- ---- the leaves

pub length-leaves : (depth : ℕ) (words : List ℕ) → length (leaves depth words) ≡ 2 ^ depth
unfolding leaves
length-leaves zero words = refl
length-leaves (suc depth) words =
    omega (arith, pow-suc 2 depth, length-append (leaves depth (take (length words / 2) (drop 1 words))) (leaves depth (drop (1 + length words / 2) words)), length-leaves depth (take (length words / 2) (drop 1 words)), length-leaves depth (drop (1 + length words / 2) words))

bytes-append : (xs ys : List ℕ) → ((i : ℕ) → get_or xs i 0 < 2 ^ 8) → ((i : ℕ) → get_or ys i 0 < 2 ^ 8) → (i : ℕ) → get_or (xs ++ ys) i 0 < 2 ^ 8
bytes-append [] ys one two i = two i
bytes-append (x ∷ xs) ys one two zero = one 0
bytes-append (x ∷ xs) ys one two (suc i) = bytes-append xs ys (λ k. one (suc k)) two i

pub bytes-leaves : (depth : ℕ) (words : List ℕ) (i : ℕ) → get_or (leaves depth words) i 0 < 2 ^ 8
unfolding leaves
bytes-leaves zero words zero = omega arith
bytes-leaves zero words (suc i) = omega arith
bytes-leaves (suc depth) words i = bytes-append (leaves depth (take (length words / 2) (drop 1 words))) (leaves depth (drop (1 + length words / 2) words)) (bytes-leaves depth _) (bytes-leaves depth _) i

one_member : (members : List ℕ) → length members ≡ 1 → members ≡ get_or members 0 0 ∷ []
one_member [] long = absurd (omega arith)
one_member (m ∷ []) long = refl
one_member (m ∷ n ∷ members) long = absurd (omega arith)

bytes-take : (n : ℕ) (xs : List ℕ) → ((i : ℕ) → get_or xs i 0 < 2 ^ 8) → (i : ℕ) → get_or (take n xs) i 0 < 2 ^ 8
bytes-take n xs bytes i = ⊎_elim
    (λ inside. subst (λ m. m < 2 ^ 8) (sym (get_or-take n xs i 0 inside)) (bytes i))
    (λ past. let long : length (take n xs) ≤ i = omega (arith, length-take n xs) in subst (λ m. m < 2 ^ 8) (sym (get_or_past (take n xs) i 0 long)) (omega arith)) (cases_lt i n)

module _ (depth : ℕ) (word : ℕ) (first second : List ℕ) (one : length first + 1 ≡ 2 * 2 ^ depth) (two : length second + 1 ≡ 2 * 2 ^ depth) where
  half_is : length (word ∷ (first ++ second)) / 2 ≡ length first
  half_is = omega (arith, length-append first second)

  first_is : take (length (word ∷ (first ++ second)) / 2) (drop 1 (word ∷ (first ++ second))) ≡ first
  first_is = ap (λ n. take n (first ++ second)) half_is ∙ take-append_seam first second

  second_is : drop (1 + length (word ∷ (first ++ second)) / 2) (word ∷ (first ++ second)) ≡ second
  second_is =
      let e : 1 + length (word ∷ (first ++ second)) / 2 ≡ suc (length first) = omega (arith, half_is) in
      ap (λ n. drop n (word ∷ (first ++ second))) e ∙ drop-append_seam first second

  leaves-node : leaves (suc depth) (word ∷ (first ++ second)) ≡ leaves depth first ++ leaves depth second
  unfolding leaves
  leaves-node = ap (λ xs. leaves depth xs ++ leaves depth (drop (1 + length (word ∷ (first ++ second)) / 2) (word ∷ (first ++ second)))) first_is ∙ ap (λ xs. leaves depth first ++ leaves depth xs) second_is

leaves-leaf : (m : ℕ) → m < 2 ^ 8 → leaves 0 (word_of (ReturnConstant m) ∷ []) ≡ m ∷ []
unfolding leaves
leaves-leaf m byte = let e : word_of (ReturnConstant m) % 256 ≡ m = omega arith in ap (λ n. n ∷ []) e

pub leaves-tree : (depth low width : ℕ) (members : List ℕ) → length members ≡ 2 ^ depth → ((i : ℕ) → get_or members i 0 < 2 ^ 8) → leaves depth (tree_words depth low width members) ≡ members
unfolding tree_words
leaves-tree zero low width members long bytes = leaves-leaf (get_or members 0 0) (bytes 0) ∙ sym (one_member members long)
leaves-tree (suc depth) low width members long bytes =
    let half = 2 ^ depth in
    let doubled : 2 ^ suc depth ≡ half * 2 = pow-suc 2 depth in
    let first_long : length (take half members) ≡ half = length-take-le half members (omega arith) in
    let second_long : length (drop half members) ≡ half = length-drop half members ∙ (let g : length members - half ≡ half = omega arith in g) in
    leaves-node depth _ (tree_words depth low width (take half members)) (tree_words depth (low + half * width) width (drop half members)) (length-tree_words depth low width (take half members)) (length-tree_words depth (low + half * width) width (drop half members))
    ∙ (ap (λ xs. xs ++ leaves depth (tree_words depth (low + half * width) width (drop half members))) (leaves-tree depth low width (take half members) first_long (bytes-take half members bytes))
    ∙ (ap (λ xs. take half members ++ xs) (leaves-tree depth (low + half * width) width (drop half members) second_long (λ i. subst (λ m. m < 2 ^ 8) (sym (get_or-drop half members i 0)) (bytes (half + i)))) ∙ take-append-drop half members))

-- ---- the whole

abbrev pub table_with : ℕ → List ℕ → BucketsValue
table_with depth members = record { depth = depth; members = members }

pub selector_longer : (by : HashBy) (buckets : BucketsValue) → length (hash_words by) < length (selector_words by buckets)
selector_longer by buckets =
    let width = width_of (length buckets.members) in
    omega (arith, length-append (hash_words by) (tree_words buckets.depth 0 width buckets.members), tree_some buckets.depth 0 width buckets.members)

module _ (words : List ℕ) (by : HashBy) (buckets : BucketsValue) (is : IsSelectorOf words by buckets) where
  abbrev tree : List ℕ
  tree = tree_words buckets.depth 0 (width_of (length buckets.members)) buckets.members

  pub read_by : by_of words ≡ by
  read_by = ap by_of is.written ∙ by_of-selector by buckets is.table

  pub read_long : (n : ℕ) → n ≡ length (hash_words (by_of words)) → length words ≤ n → ⊥
  read_long n first short =
      let same : n ≡ length (hash_words by) = first ∙ ap (λ b. length (hash_words b)) read_by in
      omega (arith, selector_longer by buckets, ap length is.written)

  pub read_tree : (n : ℕ) → n ≡ length (hash_words (by_of words)) → drop n words ≡ tree
  read_tree n first =
      ap (λ m. drop m words) (first ∙ ap (λ b. length (hash_words b)) read_by) ∙ (ap (drop (length (hash_words by))) is.written ∙ tree_of-selector by buckets)

  pub read_length : length tree + 1 ≡ 2 * 2 ^ buckets.depth
  read_length = length-tree_words buckets.depth 0 (width_of (length buckets.members)) buckets.members

  pub read_table : (depth : ℕ) → length tree + 1 ≡ 2 * 2 ^ depth → table_with depth (leaves depth tree) ≡ buckets
  read_table depth long =
      let same : depth ≡ buckets.depth = one_depth depth buckets.depth (sym long ∙ read_length) in
      let members : leaves depth tree ≡ buckets.members = ap (λ d. leaves d tree) same ∙ leaves-tree buckets.depth 0 (width_of (length buckets.members)) buckets.members is.table.whole is.table.bytes in
      ap (λ d. table_with d (leaves depth tree)) same ∙ ap (table_with buckets.depth) members

pub leaves_table : (depth : ℕ) (words : List ℕ) → depth ≤ 8 → IsTable (record { depth = depth; members = leaves depth words })
leaves_table depth words limited = record { limited = limited; whole = length-leaves depth words; bytes = bytes-leaves depth words }

pub one_table : HasOneTable
one_table words by other buckets others is is' =
    let same = sym (read_by words by buckets is) ∙ read_by words other others is' in
    let n = length (hash_words (by_of words)) in
    let tree_is = sym (read_tree words by buckets is n refl) ∙ read_tree words other others is' n refl in (
      same,
      sym (read_table words by buckets is buckets.depth (read_length words by buckets is))
          ∙ (ap (λ (t : List ℕ). table_with buckets.depth (leaves buckets.depth t)) tree_is
          ∙ read_table words other others is' buckets.depth (ap (λ t. length t + 1) (sym tree_is) ∙ read_length words by buckets is)),
    )

-- ---- what the code does

pub leaves-first : (depth : ℕ) (words : List ℕ) → depth ≡ 0 → leaves depth words ≡ get_or words 0 0 % 256 ∷ []
unfolding leaves
leaves-first depth words e = ap (λ d. leaves d words) e

leaves-more : (depth : ℕ) (words : List ℕ) → (depth ≡ 0 → ⊥) → leaves depth words ≡ leaves (depth - 1) (take (length words / 2) (drop 1 words)) ++ leaves (depth - 1) (drop (1 + length words / 2) words)
unfolding leaves
leaves-more zero words some = absurd (some refl)
leaves-more (suc depth) words some =
    let before : depth ≡ suc depth - 1 = omega arith in
    ap (λ d. leaves d (take (length words / 2) (drop 1 words)) ++ leaves d (drop (1 + length words / 2) words)) before

module _ (depth : ℕ) (words : List ℕ) (some : depth ≡ 0 → ⊥) (long : length words + 1 ≡ 2 * 2 ^ depth) where
  abbrev half : ℕ
  half = length words / 2

  half_long : half + 1 ≡ 2 * 2 ^ (depth - 1)
  half_long = omega (arith, (halves depth (2 ^ depth) some refl).1)

  both_long : half + half + 1 ≡ length words
  both_long = omega (arith, half_long, (halves depth (2 ^ depth) some refl).1)

  first_slice : take (1 + half - 1) (drop 1 words) ≡ take half (drop 1 words)
  first_slice = let e : 1 + half - 1 ≡ half = omega arith in ap (λ n. take n (drop 1 words)) e

  pub first_slice_long : length (take (1 + half - 1) (drop 1 words)) + 1 ≡ 2 * 2 ^ (depth - 1)
  first_slice_long = ap (λ xs. length xs + 1) first_slice ∙ (ap (λ n. n + 1) (length-take-le half (drop 1 words) (omega (arith, length-drop 1 words, both_long))) ∙ half_long)

  second_slice : take (length words - (1 + half)) (drop (1 + half) words) ≡ drop (1 + half) words
  second_slice = ap (λ n. take n (drop (1 + half) words)) (sym (length-drop (1 + half) words)) ∙ take-length (drop (1 + half) words)

  pub second_slice_long : length (take (length words - (1 + half)) (drop (1 + half) words)) + 1 ≡ 2 * 2 ^ (depth - 1)
  second_slice_long = ap (λ xs. length xs + 1) second_slice ∙ (let e : length (drop (1 + half) words) + 1 ≡ half + 1 = omega (arith, length-drop (1 + half) words, both_long) in e ∙ half_long)

  pub read_node : (old one two : List ℕ) → one ≡ old ++ leaves (depth - 1) (take (1 + half - 1) (drop 1 words)) → two ≡ one ++ leaves (depth - 1) (take (length words - (1 + half)) (drop (1 + half) words)) → two ≡ old ++ leaves depth words
  read_node old one two read1 read2 =
      let first = leaves (depth - 1) (take half (drop 1 words)) in
      let second = leaves (depth - 1) (drop (1 + half) words) in
      read2
      ∙ (ap (λ xs. one ++ leaves (depth - 1) xs) second_slice
      ∙ (ap (λ xs. xs ++ second) (read1 ∙ ap (λ xs. old ++ leaves (depth - 1) xs) first_slice)
      ∙ (append_assoc old first second ∙ ap (λ xs. old ++ xs) (sym (leaves-more depth words some)))))

pub read_slice : (words : List ℕ) (by : HashBy) (buckets : BucketsValue) → IsSelectorOf words by buckets → (n : ℕ) → n ≡ length (hash_words (by_of words))
    → take (length words - n) (drop n words) ≡ tree_words buckets.depth 0 (width_of (length buckets.members)) buckets.members
read_slice words by buckets is n first =
    ap (λ m. take m (drop n words)) (sym (length-drop n words)) ∙ (take-length (drop n words) ∙ read_tree words by buckets is n first)
