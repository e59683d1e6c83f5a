-- Parts of code, one behind the other.
use Rattle.std.proofs.Common.{◌≡◌, ◌∙◌, ◌+◌, ◌<◌, ◌≤◌, ◌⊎◌, List, [], arith, drop, inl, inr, length, refl, sym, ℕ, ⊎_elim}
use Rattle.std.specs.Prelude.{Contains}
use Rattle.std.proofs.lemmas.Bool.{cases_lt}
use Rattle.bpf_verify.specs.Accepted.{IsFaultless}
use Rattle.filter_emit.specs.declared.fixup.Fixup.{Fixup}
use Rattle.filter_emit.specs.declared.fixup.Side.{Side}
use Rattle.filter_emit.specs.Fixups.{IsBound, IsFilled, IsFixup, IsLonger, LeadsTo, StandsAt}
use Rattle.filter_emit.specs.Pieces.{IsPart, IsPiece, Meaning, Targets}
use Rattle.filter_emit.specs.Guards.{IsGuard}

pub no_fixup : {A : Type 0} → (fixup : Fixup) → Contains [] fixup → A
no_fixup fixup is = let inside = is.1 in absurd (omega arith)

-- ---- a guard and a part behind it

module _ (targets : Targets) (ahead : (until on_yes : ℕ) → targets until on_yes → until ≤ on_yes) (one two both : Meaning) (v w from mid until : ℕ) (code longer : List ℕ) (no1 yes2 no2 no3 : List Fixup)
    (first : IsGuard one v from mid code no1) (grows : IsLonger code longer) (second : IsPart targets two w mid until longer yes2 no2)
    (joined : (fixup : Fixup) → Contains no3 fixup → Contains no1 fixup ⊎ Contains no2 fixup) (of_first : (fixup : Fixup) → Contains no1 fixup → Contains no3 fixup) (of_second : (fixup : Fixup) → Contains no2 fixup → Contains no3 fixup)
    (and : (on_yes on_no later words : List ℕ) → one later on_no words → two on_yes on_no later → both on_yes on_no words) where
  -- what waits behind the guard is no jump of the guard
  not_behind : (place : ℕ) (side : Side) → place < mid → IsFixup yes2 place side ⊎ IsFixup no3 place side → IsFixup no1 place side
  not_behind place side low waits = ⊎_elim
      (λ y. absurd (let w = second.yes_within _ y in omega arith))
      (λ n. ⊎_elim (λ h. h) (λ h. absurd (let w = second.no_within _ h in omega arith)) (joined _ n)) waits

  not_before : (place : ℕ) (side : Side) → mid ≤ place → IsFixup yes2 place side ⊎ IsFixup no3 place side → IsFixup yes2 place side ⊎ IsFixup no2 place side
  not_before place side up waits = ⊎_elim inl
      (λ n. ⊎_elim (λ h. absurd (let w = first.no_within _ h in omega arith)) inr (joined _ n)) waits

  module _ (program : List ℕ) (on_yes on_no : ℕ) (yes_is : targets until on_yes) (no_behind : until ≤ on_no) (yes_inside : on_yes < length program) (no_inside : on_no < length program)
      (full : IsFilled from until longer yes2 no3 on_yes on_no program) where
    later_full : IsFilled mid until longer yes2 no2 on_yes on_no program
    later_full = record {
      stands = λ pc low high insn at. let s = full.stands pc (let f = first.forward in omega arith) high insn at in
          (s.0, s.1, s.2, λ side. ⊎_elim (λ waits. inl (not_before pc side low waits)) inr (s.3 side));
      yes_filled = full.yes_filled;
      no_filled = λ fixup is. full.no_filled fixup (of_second fixup is);
    }

    stays : (pc : ℕ) → from ≤ pc → pc < mid → StandsAt (λ place side. IsFixup [] place side ⊎ IsFixup no1 place side) code program pc
    stays pc low high insn at =
        let far = full.stands pc low (let f = second.forward in omega arith) insn (grows pc insn at) in
        (far.0, far.1, far.2, λ side. ⊎_elim (λ waits. inl (inr (not_behind pc side high waits))) inr (far.3 side))

    first_full : IsFilled from mid code [] no1 mid on_no program
    first_full = record { stands = stays; yes_filled = λ fixup is. no_fixup fixup is; no_filled = λ fixup is. full.no_filled fixup (of_first fixup is) }

    mid_inside : mid < length program
    mid_inside = let f = second.forward in omega arith

    both_mean : both (drop on_yes program) (drop on_no program) (drop from program)
    both_mean = and (drop on_yes program) (drop on_no program) (drop mid program) (drop from program)
        (first.meant program mid on_no refl (let f = second.forward in omega arith) mid_inside no_inside first_full)
        (second.meant program on_yes on_no yes_is no_behind yes_inside no_inside later_full)

    both_sound : (pc : ℕ) → from ≤ pc → pc < until → IsFaultless program pc
    both_sound pc low high = ⊎_elim
        (λ before. first.sound program mid on_no refl (let f = second.forward in omega arith) mid_inside no_inside first_full pc low before)
        (λ behind. second.sound program on_yes on_no yes_is no_behind yes_inside no_inside later_full pc behind high) (cases_lt pc mid)

  pub IsPart-behind : IsPart targets both (v + w) from until longer yes2 no3
  IsPart-behind = record {
    forward = let f = first.forward in let g = second.forward in omega arith;
    light = let f = first.light in let g = second.light in omega arith;
    yes_within = λ fixup is. let h = second.yes_within fixup is in let f = first.forward in (let l = h.0 in omega arith, h.1);
    no_within = λ fixup is. ⊎_elim
        (λ n. let h = first.no_within fixup n in (h.0, let g = second.forward in let l = h.1 in omega arith))
        (λ n. let h = second.no_within fixup n in (let f = first.forward in let l = h.0 in omega arith, h.1)) (joined fixup is);
    apart = λ fixup y n. ⊎_elim
        (λ n1. let a = first.no_within fixup n1 in let b = second.yes_within fixup y in let low = a.1 in let up = b.0 in absurd (omega arith))
        (λ n2. second.apart fixup y n2) (joined fixup n);
    meant = both_mean;
    sound = both_sound;
  }

-- ---- a piece of which the yes is bound behind it

module _ (means : Meaning) (w from mid : ℕ) (code bound : List ℕ) (yes1 no1 : List Fixup) (piece : IsPiece means w from mid code yes1 no1) (binds : IsBound yes1 code bound) (ends : length code ≡ mid) where
  module _ (program : List ℕ) (on_yes on_no : ℕ) (here : on_yes ≡ mid) (full : IsFilled from mid bound [] no1 on_yes on_no program) where
    still_stands : (pc : ℕ) → from ≤ pc → pc < mid → StandsAt (λ place side. IsFixup yes1 place side ⊎ IsFixup no1 place side) code program pc
    still_stands pc low high insn at =
        let near = binds.stands pc (omega arith) (let e = ends in omega arith) insn at in
        let far = full.stands pc low high near.0 near.1 in (
          far.0,
          far.1,
          far.2 ∙ near.2,
          λ side. ⊎_elim (λ waits. inl (⊎_elim (λ none. no_fixup _ none) inr waits))
              (λ same. ⊎_elim (λ waits. inl (inl waits)) (λ same'. inr (same ∙ same')) (near.3 side)) (far.3 side),
        )

    leads : (fixup : Fixup) → Contains yes1 fixup → LeadsTo program fixup.place fixup.side on_yes
    leads fixup is =
        let w = piece.yes_within fixup is in let t = binds.filled fixup is in
        let far = full.stands fixup.place w.0 w.1 t.0 t.2 in
        ⊎_elim (λ waits. ⊎_elim (λ none. no_fixup _ none) (λ n. absurd (piece.apart fixup is n)) waits)
        (λ same. (far.0, t.1, far.1, same ∙ t.3, here ∙ (sym ends ∙ t.4))) (far.3 fixup.side)

    piece_full : IsFilled from mid code yes1 no1 on_yes on_no program
    piece_full = record { stands = still_stands; yes_filled = leads; no_filled = full.no_filled }

  pub IsGuard-bound : IsGuard means w from mid bound no1
  IsGuard-bound = record {
    forward = piece.forward;
    light = piece.light;
    yes_within = λ fixup is. no_fixup fixup is;
    no_within = piece.no_within;
    apart = λ fixup is n. no_fixup fixup is;
    meant = λ program on_yes on_no here b c d full. piece.meant program on_yes on_no (omega arith) b c d (piece_full program on_yes on_no here full);
    sound = λ program on_yes on_no here b c d full. piece.sound program on_yes on_no (omega arith) b c d (piece_full program on_yes on_no here full);
  }

-- ---- the two targets exchanged

swap_filled : (from until : ℕ) (code : List ℕ) (yes1 no1 : List Fixup) (on_yes on_no : ℕ) (program : List ℕ) → IsFilled from until code no1 yes1 on_yes on_no program → IsFilled from until code yes1 no1 on_no on_yes program
swap_filled from until code yes1 no1 on_yes on_no program full = record {
  stands = λ pc low high insn at. let s = full.stands pc low high insn at in (s.0, s.1, s.2, λ side. ⊎_elim (λ o. inl (⊎_elim inr inl o)) inr (s.3 side));
  yes_filled = full.no_filled;
  no_filled = full.yes_filled;
}

pub IsPiece-not : (means other : Meaning) → ((at_yes at_no words : List ℕ) → means at_no at_yes words → other at_yes at_no words)
    → (w from until : ℕ) (code : List ℕ) (yes1 no1 : List Fixup) → IsPiece means w from until code yes1 no1 → IsPiece other w from until code no1 yes1
IsPiece-not means other so w from until code yes1 no1 h = record {
  forward = h.forward;
  light = h.light;
  yes_within = h.no_within;
  no_within = h.yes_within;
  apart = λ fixup a b. h.apart fixup b a;
  meant = λ program on_yes on_no a b c d full.
      so (drop on_yes program) (drop on_no program) (drop from program) (h.meant program on_no on_yes b a d c (swap_filled from until code yes1 no1 on_yes on_no program full));
  sound = λ program on_yes on_no a b c d full. h.sound program on_no on_yes b a d c (swap_filled from until code yes1 no1 on_yes on_no program full);
}

-- ---- another meaning, a greater weight

pub IsPart-means : (targets : Targets) (means other : Meaning) → ((at_yes at_no words : List ℕ) → means at_yes at_no words → other at_yes at_no words)
    → (w v from until : ℕ) → w ≤ v → (code : List ℕ) (yes1 no1 : List Fixup) → IsPart targets means w from until code yes1 no1 → IsPart targets other v from until code yes1 no1
IsPart-means targets means other so w v from until more code yes1 no1 h = record {
  forward = h.forward;
  light = let l = h.light in omega arith;
  yes_within = h.yes_within;
  no_within = h.no_within;
  apart = h.apart;
  meant = λ program on_yes on_no a b c d full. so (drop on_yes program) (drop on_no program) (drop from program) (h.meant program on_yes on_no a b c d full);
  sound = h.sound;
}
