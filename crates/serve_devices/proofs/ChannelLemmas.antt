-- Each step of a channel keeps its rule.
use Rattle.std.proofs.Common.{◌≡◌, ◌≢◌, ℕ, zero, suc, true, false, true≢false, List, [], ◌∷◌, ◌++◌, length, set, sym, refl, ap, ◌∙◌, subst, ⊎_elim, append_assoc}
use mathlib.Core.Option.{some, some-ne-none}
use lib.ListN.{get_elem?}
use Rattle.crossbeam_channel.specs.Fifo.{Pushes, Pops, Forks, Merges, Learns}
use Rattle.atomic_table.proofs.Lists.{at_set, at_snoc}
use Rattle.serve_devices.specs.declared.channel.Share.{Share}
use Rattle.serve_devices.specs.body.InOrder.{share, Knows, IsInOrder}

module _ {T : Type 0} where
  at_end : (l : List (Share T)) (a b : Share T) (j : ℕ) → get_elem? l j ≢ some b → get_elem? (l ++ a ∷ []) j ≡ some b → j ≡ length l
  at_end [] a b zero n e = refl
  at_end [] a b (suc j) n e = absurd (some-ne-none b (sym e))
  at_end (x ∷ xs) a b zero n e = absurd (n e)
  at_end (x ∷ xs) a b (suc j) n e = ap suc (at_end xs a b j n e)

  abbrev Each : (ℕ → Share T → Type 0) → List (Share T) → Type 0
  Each F views = (pass : ℕ) (v : Share T) → get_elem? views pass ≡ some v → F pass v

  all_set : (F : ℕ → Share T → Type 0) (views : List (Share T)) (pass : ℕ) (w : Share T) → F pass w
      → ((j : ℕ) (u : Share T) → j ≢ pass → get_elem? views j ≡ some u → F j u) → Each F (set views pass w)
  all_set F views pass w mine others j u e = ⊎_elim (λ (x : (j ≡ pass) × (w ≡ u)). subst (λ (y : ℕ × Share T). F y.0 y.1) (λ i. (sym x.0 i, x.1 i)) mine)
      (λ (x : (j ≢ pass) × (get_elem? views j ≡ some u)). others j u x.0 x.1) (at_set views pass j w u e)

  pub begins : IsInOrder {T = T} [] (share {T = T} true true [] [] ∷ [])
  begins = (0, 0, [], [], refl, all_set (Knows 0 0 [] []) (share true true [] [] ∷ []) 0 (share true true [] []) ((λ _. (refl, refl)), λ _. (refl, refl)) (λ j u other e. absurd (other (at_end [] _ u j (λ x. some-ne-none u (sym x)) e))))

  pub puts : (n pass : ℕ) (v : Share T) (x : T) → v.puts ≡ true → Pushes IsInOrder n pass v x (λ w. w ≡ share v.puts v.takes (v.put ++ x ∷ []) v.taken)
  puts n pass v x may items views _ h at =
      let w : Share T = share v.puts v.takes (v.put ++ x ∷ []) v.taken in
      let mine = h.5 pass v at in
      let put = h.2 ++ x ∷ [] in (
        w,
        (
          h.0,
          h.1,
          put,
          h.3,
          ap (λ l. l ++ x ∷ []) h.4 ∙ append_assoc h.3 items (x ∷ []),
          all_set (Knows h.0 h.1 put h.3) views pass w ((λ _. ((mine.0 may).0, ap (λ l. l ++ x ∷ []) (mine.0 may).1)), mine.1)
              (λ j u other e. ((λ p. absurd (other (((h.5 j u e).0 p).0 ∙ sym (mine.0 may).0))), (h.5 j u e).1)),
        ),
        refl,
      )

  pub takes : (pass : ℕ) (v : Share T) → v.takes ≡ true → Pops IsInOrder pass v (λ x w. w ≡ share v.puts v.takes v.put (v.taken ++ x ∷ []))
  takes pass v may x items views h at =
      let w : Share T = share v.puts v.takes v.put (v.taken ++ x ∷ []) in
      let mine = h.5 pass v at in
      let taken = h.3 ++ x ∷ [] in (
        w,
        (
          h.0,
          h.1,
          h.2,
          taken,
          h.4 ∙ sym (append_assoc h.3 (x ∷ []) items),
          all_set (Knows h.0 h.1 h.2 taken) views pass w (mine.0, λ _. ((mine.1 may).0, ap (λ l. l ++ x ∷ []) (mine.1 may).1))
              (λ j u other e. ((h.5 j u e).0, λ p. absurd (other (((h.5 j u e).1 p).0 ∙ sym (mine.1 may).0)))),
        ),
        refl,
      )

  pub forks : (pass : ℕ) (v : Share T) → v.puts ≡ true → v.takes ≡ true → Forks IsInOrder pass v (share true false v.put []) (share false true [] v.taken)
  forks pass v a b items views h at =
      let l : Share T = share true false v.put [] in
      let r : Share T = share false true [] v.taken in
      let mine = h.5 pass v at in
      let vs : List (Share T) = set views pass l in
      let Old : ℕ → Share T → Type 0 = λ j u. (u.puts ≡ true → (j ≡ h.0) × (u.put ≡ h.2)) × (u.takes ≢ true) in
      let old : Each Old vs = all_set Old views pass l ((λ _. mine.0 a), λ p. true≢false (sym p)) (λ j u other e. ((h.5 j u e).0, λ p. other (((h.5 j u e).1 p).0 ∙ sym (mine.1 b).0))) in (
        h.0,
        length vs,
        h.2,
        h.3,
        h.4,
        λ j u e. ⊎_elim (λ x. ((old j u x).0, λ p. absurd ((old j u x).1 p)))
            (λ (is : r ≡ u). (
              (λ p. absurd (true≢false (sym (ap (λ (y : Share T). y.puts) is ∙ p)))),
              λ p. (at_end vs r u j (λ x. (old j u x).1 p) e, ap (λ (y : Share T). y.taken) (sym is) ∙ (mine.1 b).1),
            ))
            (at_snoc vs r u j e),
      )

  pub merges : (pass : ℕ) (v : Share T) (other : ℕ) (u : Share T) → v.puts ≡ true → u.takes ≡ true
      → Merges IsInOrder pass v other u (share true true v.put u.taken) (share false false [] [])
  merges pass v other u a b items views h at two at' =
      let both : Share T = share true true v.put u.taken in
      let mine = h.5 pass v at in
      let vs : List (Share T) = set views pass both in
      let was : get_elem? views other ≡ some u = ⊎_elim (λ x. absurd (two x.0)) (λ x. x.1) (at_set views pass other both u at') in
      let theirs = (h.5 other u was).1 b in
      let Now : ℕ → Share T → Type 0 = λ j y. j ≢ other → Knows h.0 pass h.2 h.3 j y in
      let now : Each Now vs = all_set Now views pass both (λ _. ((λ _. mine.0 a), λ _. (refl, theirs.1))) (λ j y _ e apart. ((h.5 j y e).0, λ p. absurd (apart (((h.5 j y e).1 p).0 ∙ sym theirs.0)))) in
      (h.0, pass, h.2, h.3, h.4, all_set (Knows h.0 pass h.2 h.3) vs other (share false false [] []) ((λ p. absurd (true≢false (sym p))), λ p. absurd (true≢false (sym p))) (λ j y apart e. now j y e apart))

  pub learns : (pass : ℕ) (v : Share T) → v.puts ≡ true → v.takes ≡ true → Learns IsInOrder pass v (λ items. v.put ≡ v.taken ++ items)
  learns pass v a b items views h at = let mine = h.5 pass v at in (mine.0 a).1 ∙ h.4 ∙ ap (λ l. l ++ items) (sym (mine.1 b).1)
