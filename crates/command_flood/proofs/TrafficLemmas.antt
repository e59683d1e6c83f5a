-- The datagrams and the versions of `flood`, one more at a time, and a worker's share by strides.
use Rattle.std.proofs.Common.{◌≡◌, ◌≢◌, ◌∙◌, ◌+◌, ◌-◌, ◌%◌, ◌<◌, ◌≤◌, ◌==◌, ◌++◌, ◌∷◌, Bool, [], ap, arith, cond, eq-eqb, false, inl, inr, map, ne_eqb, refl, suc, sym, true, zero, ℕ}
use Rattle.std.specs.List.{filter}
use Rattle.std.proofs.Math.Nat.{add-mod_left, mod-add-mod, mod-eq_of_lt}
use Rattle.std.proofs.Math.Numerals.{add-one}
use Rattle.std.proofs.lemmas.Bool.{cases_lt}
use Rattle.std.proofs.lemmas.List.{append-nil, map-append}
use Rattle.std.proofs.lemmas.List.Elements.{filter-append}
use Rattle.std.proofs.lemmas.Nat.{mod_below}
use Rattle.command_flood.specs.Traffic.{datagram_at, numbers_below, share_of}

pub numbers_more : (n : ℕ) → numbers_below (n + 1) ≡ numbers_below n ++ n ∷ []
numbers_more n = rw add-one refl

pub map_more : {A : Type 0} (f : ℕ → A) (n : ℕ) → map f (numbers_below (n + 1)) ≡ map f (numbers_below n) ++ f n ∷ []
map_more f n = ap (map f) (numbers_more n) ∙ map-append f (numbers_below n) (n ∷ [])

module _ (worker workers : ℕ) where
  abbrev is_shared : ℕ → Bool
  is_shared i = i % workers == worker

  shared_more : (n : ℕ) (b : Bool) → is_shared n ≡ b → share_of worker workers (n + 1) ≡ share_of worker workers n ++ map datagram_at (cond b (n ∷ []) [])
  shared_more n b is =
      ap (λ numbers. map datagram_at (filter is_shared numbers)) (numbers_more n)
      ∙ (ap (map datagram_at) (filter-append is_shared (numbers_below n) (n ∷ []) ∙ ap (λ b. filter is_shared (numbers_below n) ++ cond b (n ∷ []) []) is)
      ∙ map-append datagram_at (filter is_shared (numbers_below n)) (cond b (n ∷ []) []))

  share_taken : (n : ℕ) → is_shared n ≡ true → share_of worker workers (n + 1) ≡ share_of worker workers n ++ datagram_at n ∷ []
  share_taken n is = shared_more n true is

  share_passed : (n : ℕ) → n % workers ≢ worker → share_of worker workers (n + 1) ≡ share_of worker workers n
  share_passed n is = shared_more n false (ne_eqb (n % workers) worker is) ∙ append-nil (share_of worker workers n)

  -- no number below n is the worker's
  share_none : (n : ℕ) → ((i : ℕ) → i < n → i % workers ≢ worker) → share_of worker workers n ≡ []
  share_none zero none = refl
  share_none (suc n) none =
      ap (share_of worker workers) (sym (add-one n)) ∙ share_passed n (none n (omega arith)) ∙ share_none n (λ i below. none i (omega arith))

  pub none_before : (n : ℕ) → worker < workers → n ≤ worker → share_of worker workers n ≡ []
  none_before n inside early = share_none n (λ i below same.
      let here : i ≡ worker = sym (mod-eq_of_lt (omega arith)) ∙ same in absurd (omega arith))

  pub none_beyond : (n : ℕ) → 0 < workers → workers ≤ worker → share_of worker workers n ≡ []
  none_beyond n some outside = share_none n (λ i below same. let rest = mod_below i workers some in absurd (omega arith))

  -- between two numbers of a worker there is none
  off_stride : (i s : ℕ) → i % workers ≡ worker → 0 < s → s < workers → (i + s) % workers ≢ worker
  off_stride i s is some few same =
      let met : (worker + s) % workers ≡ worker = ap (λ n. (n + s) % workers) (sym is) ∙ mod-add-mod i workers s ∙ same in
      elim (cases_lt (worker + s) workers) [
        | inl short ↦ let here : worker + s ≡ worker = sym (mod-eq_of_lt short) ∙ met in absurd (omega arith)
        | inr past ↦
            let rest : ℕ = worker + s - workers in
            let below = mod_below i workers (omega arith) in
            let whole : workers + rest ≡ worker + s = omega arith in
            let here : rest ≡ worker = sym (mod-eq_of_lt (omega arith)) ∙ sym (add-mod_left workers rest) ∙ ap (λ n. n % workers) whole ∙ met in
            absurd (omega arith)
      ]

  -- up to s numbers behind it a number of the worker is the last
  stride : (i s : ℕ) → i % workers ≡ worker → s < workers → share_of worker workers (i + 1 + s) ≡ share_of worker workers i ++ datagram_at i ∷ []
  stride i zero is few =
      let next : i + 1 + 0 ≡ i + 1 = omega arith in
      ap (share_of worker workers) next ∙ share_taken i (eq-eqb (i % workers) worker is)
  stride i (suc s) is few =
      let next : i + 1 + suc s ≡ i + 1 + s + 1 = omega arith in
      let behind : i + suc s ≡ i + 1 + s = omega arith in
      ap (share_of worker workers) next
      ∙ share_passed (i + 1 + s) (λ same. off_stride i (suc s) is (omega arith) few (ap (λ n. n % workers) behind ∙ same))
      ∙ stride i s is (omega arith)

  -- from a number of the worker on, as far as its next one
  pub stride_to : (i end : ℕ) → i % workers ≡ worker → i < end → end ≤ i + workers
      → share_of worker workers end ≡ share_of worker workers i ++ datagram_at i ∷ []
  stride_to i end is below near =
      let s : ℕ = end - (i + 1) in
      let far : end ≡ i + 1 + s = omega arith in
      ap (share_of worker workers) far ∙ stride i s is (omega arith)
