-- The table of plain.rt beside the instruction table, and what follows of a word below its limit.
use Rattle.std.proofs.Common.{◌≡◌, ◌==◌, ◌*◌, ◌+◌, ◌-◌, ◌/◌, ◌%◌, ◌^◌, ◌<◌, ◌≤◌, ◌∷◌, ◌&&◌, Bool, List, None, Ok, Option, Some, [], arith, bit_and, cond, false, inl, inr, refl, subst, suc, true, zero, ℕ}
use Rattle.std.specs.Prelude.{nat_lt}
use Rattle.std.proofs.lemmas.Bool.{and_parts, cases_lt, eqb-true, ltb-true}
use Rattle.bpf_insn.specs.Table.{Entry, Uses, instruction_with, table, unused_sum, uses_in, uses_of}
use Rattle.bpf_insn.specs.Word.{code_of, constant_of, false_jump_of, instruction_of, true_jump_of}
use Rattle.bpf_verify.specs.declared.plain.Plain.{Plain}
use Rattle.bpf_verify.specs.body.Plain.{IsPlain, plain_of}
use Rattle.bpf_verify.proofs.PlainLemmas.{Holds, absolute, after_mark, any, left, load, load_x, never, nothing, right, store, store_x}

data AllHold : List Entry → Type 0 where
  no_entries : AllHold []
  ◌▹◌ : {entry : Entry} {entries : List Entry} → Holds entry.uses (plain_of entry.code) → AllHold entries → AllHold (entry ∷ entries)

infixr 5 ◌▹◌
table-holds : AllHold table
unfolding table
table-holds =
    absolute _
    ▹ absolute _
    ▹ absolute _
    ▹ any _ (λ k. tt {0})
    ▹ any _ (λ k. tt {0})
    ▹ any _ (λ k. tt {0})
    ▹ any _ (λ k. tt {0})
    ▹ load
    ▹ nothing _ (tt {0})
    ▹ any _ (λ k. tt {0})
    ▹ load_x
    ▹ nothing _ (tt {0})
    ▹ any _ (λ k. tt {0})
    ▹ store
    ▹ store_x
    ▹ any _ (λ k. tt {0})
    ▹ nothing _ (tt {0})
    ▹ any _ (λ k. tt {0})
    ▹ nothing _ (tt {0})
    ▹ any _ (λ k. tt {0})
    ▹ nothing _ (tt {0})
    ▹ never _
    ▹ nothing _ (tt {0})
    ▹ any _ (λ k. tt {0})
    ▹ nothing _ (tt {0})
    ▹ any _ (λ k. tt {0})
    ▹ nothing _ (tt {0})
    ▹ left
    ▹ nothing _ (tt {0})
    ▹ right
    ▹ nothing _ (tt {0})
    ▹ never _
    ▹ nothing _ (tt {0})
    ▹ any _ (λ k. tt {0})
    ▹ nothing _ (tt {0})
    ▹ nothing _ (tt {0})
    ▹ nothing _ (tt {0})
    ▹ nothing _ (tt {0})
    ▹ never _
    ▹ never _
    ▹ never _
    ▹ never _
    ▹ never _
    ▹ never _
    ▹ never _
    ▹ never _
    ▹ never _
    ▹ never _
    ▹ never _
    ▹ no_entries

entry-step : (b : Bool) (first : Entry) (code : ℕ) (rest : Option Uses) (uses : Uses) → (first.code == code) ≡ b → Holds first.uses (plain_of first.code) → (rest ≡ Some uses → Holds uses (plain_of code)) → cond b (Some first.uses) rest ≡ Some uses → Holds uses (plain_of code)
entry-step true first code rest uses test here later found =
    let at : first.code ≡ code = eqb-true first.code code test in
    let same : first.uses ≡ uses = cc in
    rw (← at, ← same) here
entry-step false first code rest uses test here later found = later found

uses_in-holds : (entries : List Entry) (code : ℕ) (uses : Uses) → AllHold entries → uses_in entries code ≡ Some uses → Holds uses (plain_of code)
uses_in-holds [] code uses no_entries found = cc
uses_in-holds (first ∷ entries) code uses (here ▹ later) found =
    entry-step (first.code == code) first code (uses_in entries code) uses refl here (uses_in-holds entries code uses later) found

uses_of-holds : (code : ℕ) (uses : Uses) → uses_of code ≡ Some uses → Holds uses (plain_of code)
unfolding uses_of
uses_of-holds code uses found = uses_in-holds table code uses table-holds found

-- ---- a code with a limit is an instruction's

all_below : (ℕ → Bool) → ℕ → Bool
all_below p zero = true
all_below p (suc n) = p n && all_below p n

all_below-at : (p : ℕ → Bool) (n j : ℕ) → all_below p n ≡ true → j < n → p j ≡ true
unfolding all_below
all_below-at p zero j all below = absurd (omega arith)
all_below-at p (suc n) j all below =
    let both = and_parts (p n) (all_below p n) all in
    elim (cases_lt j n) [
      | inl earlier ↦ all_below-at p n j both.1 earlier
      | inr last ↦ let at : n ≡ j = omega arith in subst (λ k. p k ≡ true) at both.0
    ]

covers : Option Uses → ℕ → Bool
covers None limit = limit == 0
covers (Some uses) limit = nat_lt limit (2 ^ 32 + 1)

all_covered : all_below (λ code. covers (uses_of code) (plain_of code).limit) 256 ≡ true
unfolding uses_of table all_below covers
all_covered = refl

covered : (code : ℕ) → code < 256 → covers (uses_of code) (plain_of code).limit ≡ true
covered code below = all_below-at (λ c. covers (uses_of c) (plain_of c).limit) 256 code all_covered below

none_covered : (found : Option Uses) (limit : ℕ) → found ≡ None → covers found limit ≡ true → limit ≡ 0
unfolding covers
none_covered None limit none covers_it = eqb-true limit 0 covers_it
none_covered (Some uses) limit none covers_it = cc

limit_covered : (found : Option Uses) (limit : ℕ) → covers found limit ≡ true → limit ≤ 2 ^ 32
unfolding covers
limit_covered None limit covers_it = let zero = eqb-true limit 0 covers_it in omega arith
limit_covered (Some uses) limit covers_it = let small = ltb-true limit (2 ^ 32 + 1) covers_it in omega arith

-- ---- a word below its limit

module _ (w before : ℕ) (inside : code_of w < 256) (below : w % 2 ^ 48 < (plain_of (code_of w)).limit) (found : bit_and (before / 2 ^ (w % 16)) (plain_of (code_of w)).loads ≡ (plain_of (code_of w)).loads) where
  read_by : (uses : Uses) → uses_of (code_of w) ≡ Some uses → unused_sum uses (true_jump_of w) (false_jump_of w) (constant_of w) ≡ 0 → instruction_of w ≡ Ok (instruction_with uses (true_jump_of w) (false_jump_of w) (constant_of w))
  unfolding instruction_of
  read_by uses known unused = rw (known, unused) refl

  plain_by : (uses : Option Uses) → uses_of (code_of w) ≡ uses → IsPlain w before (after_mark before (plain_of (code_of w)).stores (w % 16))
  plain_by None none =
      let limit = none_covered (uses_of (code_of w)) _ none (covered (code_of w) inside) in
      absurd (omega arith)
  plain_by (Some uses) known =
      let holds = (uses_of-holds (code_of w) uses known).says w before below found in
      (instruction_with uses (true_jump_of w) (false_jump_of w) (constant_of w), read_by uses known holds.0, holds.1)

  is_plain : IsPlain w before (after_mark before (plain_of (code_of w)).stores (w % 16))
  is_plain = plain_by (uses_of (code_of w)) refl

-- as the code tests it: the word without the lower byte of its code
pub is_plain_by : (w before : ℕ) (plain : Plain) → plain ≡ plain_of (code_of w % 256) → w - code_of w % 256 * 2 ^ 48 < plain.limit → bit_and (before / 2 ^ (w % 16)) plain.loads ≡ plain.loads → IsPlain w before (after_mark before plain.stores (w % 16))
is_plain_by w before plain same below found =
    let in_table = rw same at below in
    let limit = limit_covered (uses_of (code_of w % 256)) _ (covered (code_of w % 256) (omega arith)) in
    let code : code_of w % 256 ≡ code_of w = omega arith in
    let same_code : plain ≡ plain_of (code_of w) = rw (← code) same in
    rw same_code (is_plain w before (omega arith) (rw (← code) (omega arith)) (rw same_code at found))
