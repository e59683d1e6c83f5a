-- A test that falls through on one side: the jump of the other side waits itself, or leads to a JA behind it, which waits.
use Rattle.std.proofs.Common.{◌≡◌, ◌∙◌, ◌+◌, ◌++◌, ◌∷◌, ◌<◌, ◌≤◌, ◌⊎◌, Bool, List, Some, [], ap, arith, drop, false, inl, inr, length, refl, subst, sym, true, ℕ, ⊎_elim}
use Rattle.std.specs.Prelude.{if◌then◌else◌}
use Rattle.std.proofs.lemmas.Bool.{cases_lt}
use Rattle.bpf_insn.specs.declared.instruction.Insn.{Insn}
use Rattle.bpf_insn.specs.declared.instruction.Insn.TheVariants.{Jump, JumpIf}
use Rattle.bpf_insn.specs.declared.instruction.Offsets.{Offsets}
use Rattle.bpf_insn.specs.declared.instruction.Operand.{Operand}
use Rattle.bpf_insn.specs.declared.instruction.Test.{Test}
use Rattle.bpf_insn.specs.Table.{offsets}
use Rattle.bpf_verify.specs.Accepted.{IsFaultless}
use Rattle.bpf_verify.specs.Path.{IsAt}
use Rattle.filter_emit.specs.declared.fixup.Side.{Side}
use Rattle.filter_emit.specs.declared.fixup.Side.TheVariants.{Always, WhenFalse, WhenTrue}
use Rattle.filter_emit.specs.Checks.{Checks, asks}
use Rattle.filter_emit.specs.Fixups.{CanReach, HasJump, IsAppended, IsFilled, LabelValue, LeadsTo, fixup_at, offset_of, shape_of}
use Rattle.filter_emit.specs.Pieces.{Meaning}
use Rattle.filter_emit.specs.Runs.{ComesTo}
use Rattle.filter_emit.specs.Guards.{Guards, IsGuard}
use Rattle.filter_emit.specs.body.Noting.{IsNoted}
use Rattle.filter_emit.proofs.BranchLemmas.{Tells, comes_here, first_of, only, through}
use Rattle.filter_emit.proofs.JumpLemmas.{filled_jump, jump_comes, jump_faultless, test_checks, test_faultless}
use Rattle.filter_emit.proofs.BindLemmas.{appended_at, appended_long, appended_longer, longer_both, reach_near}
use Rattle.filter_emit.proofs.PartLemmas.{no_fixup}

-- a filled test, whose two jumps lead to these places
abbrev Led : (test : Test) (operand : Operand) (falls goes : Side) (program : List ℕ) (p on_yes on_no : ℕ) → Type 0
Led test operand falls goes program p on_yes on_no =
    (later : Insn) × IsAt program p later × (shape_of later ≡ JumpIf test operand (offsets 0 0)) × LeadsTo program p falls on_yes × LeadsTo program p goes on_no

-- what is meant goes by where one side falls through to, and the other goes
module _ (means : Meaning) (test : Test) (operand : Operand) (falls goes : Side) (two : falls ≡ goes → ⊥)
    (checked : (program : List ℕ) (p on_yes on_no : ℕ) → Led test operand falls goes program p on_yes on_no → means (drop on_yes program) (drop on_no program) (drop p program))
    (faultless : (program : List ℕ) (p on_yes on_no : ℕ) → Led test operand falls goes program p on_yes on_no → on_yes < length program → on_no < length program → IsFaultless program p)
    (by_way : (at_yes at_no near_no words : List ℕ) → ComesTo at_no near_no → means at_yes near_no words → means at_yes at_no words) where
  module _ (code : List ℕ) (p : ℕ) (skips : Offsets) (at : IsAt code p (JumpIf test operand skips)) where
    module _ (here : offset_of falls (JumpIf test operand skips) ≡ Some 0) where
      near_led : (program : List ℕ) (on_yes on_no : ℕ) → on_yes ≡ p + 1 → IsFilled p (p + 1) code [] (fixup_at p goes ∷ []) on_yes on_no program → Led test operand falls goes program p on_yes on_no
      near_led program on_yes on_no next full =
          let s = full.stands p (omega arith) (omega arith) (JumpIf test operand skips) at in
          let same : offset_of falls s.0 ≡ Some 0 = ⊎_elim
          (λ waits. ⊎_elim (λ none. no_fixup _ none) (λ is. absurd (two (ap (λ h. h.side) (only (fixup_at p goes) (fixup_at p falls) is)))) waits)
          (λ same. same ∙ here) (s.3 falls) in
          (s.0, s.1, s.2, (s.0, 0, s.1, same, omega arith), full.no_filled (fixup_at p goes) (first_of (fixup_at p goes)))

      near_guard : IsGuard means 2 p (p + 1) code (fixup_at p goes ∷ [])
      near_guard = record {
        forward = omega arith;
        light = omega arith;
        yes_within = λ fixup none. no_fixup fixup none;
        no_within = λ fixup is. let e = ap (λ h. h.place) (only (fixup_at p goes) fixup is) in (omega arith, omega arith);
        apart = λ fixup none is. no_fixup fixup none;
        meant = λ program on_yes on_no next b c d full. checked program p on_yes on_no (near_led program on_yes on_no next full);
        sound = λ program on_yes on_no next b c d full pc low high. let e : p ≡ pc = omega arith in
            subst (IsFaultless program) e (faultless program p on_yes on_no (near_led program on_yes on_no next full) c d);
      }

    module _ (over : offset_of falls (JumpIf test operand skips) ≡ Some 1) (to_jump : offset_of goes (JumpIf test operand skips) ≡ Some 0) (jump : IsAt code (p + 1) (Jump 0)) where
      abbrev IsFull : List ℕ → ℕ → ℕ → Type 0
      IsFull program on_yes on_no = IsFilled p (p + 2) code [] (fixup_at (p + 1) Always ∷ []) on_yes on_no program

      kept : (program : List ℕ) (on_yes on_no : ℕ) → IsFull program on_yes on_no → (later : Insn) × IsAt program p later × (shape_of later ≡ JumpIf test operand (offsets 0 0)) × ((side : Side) → offset_of side later ≡ offset_of side (JumpIf test operand skips))
      kept program on_yes on_no full =
          let s = full.stands p (omega arith) (omega arith) (JumpIf test operand skips) at in (
            s.0,
            s.1,
            s.2,
            λ side. ⊎_elim
                (λ waits. ⊎_elim (λ none. no_fixup _ none) (λ is. let e = ap (λ h. h.place) (only (fixup_at (p + 1) Always) (fixup_at p side) is) in absurd (omega arith)) waits)
                (λ same. same) (s.3 side),
          )

      far_led : (program : List ℕ) (on_yes on_no : ℕ) → on_yes ≡ p + 2 → IsFull program on_yes on_no → Led test operand falls goes program p on_yes (p + 1)
      far_led program on_yes on_no next full = let s = kept program on_yes on_no full in
          (s.0, s.1, s.2, (s.0, 1, s.1, s.3 falls ∙ over, omega arith), (s.0, 0, s.1, s.3 goes ∙ to_jump, omega arith))

      far_jump : (program : List ℕ) (on_yes on_no : ℕ) → IsFull program on_yes on_no → (k : ℕ) × IsAt program (p + 1) (Jump k) × (on_no ≡ p + 1 + 1 + k)
      far_jump program on_yes on_no full =
          let s = full.stands (p + 1) (omega arith) (omega arith) (Jump 0) jump in
          filled_jump program (p + 1) on_no s.0 s.1 s.2 (full.no_filled (fixup_at (p + 1) Always) (first_of (fixup_at (p + 1) Always)))

      far_sound : (program : List ℕ) (on_yes on_no : ℕ) → on_yes ≡ p + 2 → on_yes < length program → on_no < length program → IsFull program on_yes on_no → (pc : ℕ) → (p ≡ pc) ⊎ (p + 1 ≡ pc) → IsFaultless program pc
      far_sound program on_yes on_no next c d full pc which = ⊎_elim
          (λ e. subst (IsFaultless program) e (faultless program p on_yes (p + 1) (far_led program on_yes on_no next full) c (omega arith)))
          (λ e. let j = far_jump program on_yes on_no full in subst (IsFaultless program) e (jump_faultless program (p + 1) j.0 on_no j.1 j.2 d)) which

      far_guard : IsGuard means 2 p (p + 2) code (fixup_at (p + 1) Always ∷ [])
      far_guard = record {
        forward = omega arith;
        light = omega arith;
        yes_within = λ fixup none. no_fixup fixup none;
        no_within = λ fixup is. let e = ap (λ h. h.place) (only (fixup_at (p + 1) Always) fixup is) in (omega arith, omega arith);
        apart = λ fixup none is. no_fixup fixup none;
        meant = λ program on_yes on_no next b c d full. let j = far_jump program on_yes on_no full in
            by_way (drop on_yes program) (drop on_no program) (drop (p + 1) program) (drop p program) (jump_comes program (p + 1) j.0 on_no j.1 j.2) (checked program p on_yes (p + 1) (far_led program on_yes on_no next full));
        sound = λ program on_yes on_no next b c d full pc low high. far_sound program on_yes on_no next c d full pc (⊎_elim (λ below. inl (omega arith)) (λ up. inr (omega arith)) (cases_lt pc (p + 1)));
      }

  module _ (before : List ℕ) (no_old no_new : LabelValue) (skips : Offsets) (same : no_new.by ≡ no_old.by) where
    near : {after : List ℕ} (k : ℕ) → offset_of falls (JumpIf test operand skips) ≡ Some 0 → offset_of goes (JumpIf test operand skips) ≡ Some k → no_old.by ≤ length before + 256
        → IsAppended (JumpIf test operand skips) before after → no_new.fixups ≡ no_old.fixups ++ fixup_at (length before) goes ∷ [] → Guards means 2 before after no_old no_new
    near {after} k here has short does grows =
        let at = appended_at (JumpIf test operand skips) before after does in record {
          ns = fixup_at (length before) goes ∷ [];
          longer = appended_longer (JumpIf test operand skips) before after does;
          no_grows = grows;
          no_by = same;
          guard = subst (λ e. IsGuard means 2 (length before) e after (fixup_at (length before) goes ∷ [])) (sym (appended_long (JumpIf test operand skips) before after does)) (near_guard after (length before) skips at here);
          no_open = λ fixup is. subst (λ h. HasJump after h.place h.side × CanReach h.place h.side no_old.by) (sym (only (fixup_at (length before) goes) fixup is))
              ((JumpIf test operand skips, k, at, has), reach_near (length before) goes no_old.by short);
          far_jumps = λ last low pc down up. let long = appended_long (JumpIf test operand skips) before after does in let e : length before ≡ pc = omega arith in
              (JumpIf test operand skips, subst (λ q. IsAt after q (JumpIf test operand skips)) e at, λ is. absurd is);
        }

    far : {mid after : List ℕ} → offset_of falls (JumpIf test operand skips) ≡ Some 1 → offset_of goes (JumpIf test operand skips) ≡ Some 0 → length before + 256 < no_old.by
        → IsAppended (JumpIf test operand skips) before mid → IsAppended (Jump 0) mid after → no_new.fixups ≡ no_old.fixups ++ fixup_at (length mid) Always ∷ [] → Guards means 2 before after no_old no_new
    far {mid} {after} over to_jump away does jumps grows =
        let first : length mid ≡ length before + 1 = appended_long (JumpIf test operand skips) before mid does in
        let long : length after ≡ length before + 2 = omega (arith, appended_long (Jump 0) mid after jumps) in
        let longer = appended_longer (Jump 0) mid after jumps in
        let at : IsAt after (length before) (JumpIf test operand skips) = longer (length before) (JumpIf test operand skips) (appended_at (JumpIf test operand skips) before mid does) in
        let jump : IsAt after (length before + 1) (Jump 0) = subst (λ n. IsAt after n (Jump 0)) first (appended_at (Jump 0) mid after jumps) in record {
          ns = fixup_at (length before + 1) Always ∷ [];
          longer = longer_both before mid after (appended_longer (JumpIf test operand skips) before mid does) longer;
          no_grows = subst (λ n. no_new.fixups ≡ no_old.fixups ++ fixup_at n Always ∷ []) first grows;
          no_by = same;
          guard = subst (λ e. IsGuard means 2 (length before) e after (fixup_at (length before + 1) Always ∷ [])) (sym long) (far_guard after (length before) skips at over to_jump jump);
          no_open = λ fixup is. subst (λ h. HasJump after h.place h.side × CanReach h.place h.side no_old.by) (sym (only (fixup_at (length before + 1) Always) fixup is)) ((Jump 0, 0, jump, refl), tt);
          far_jumps = λ last low pc down up. ⊎_elim
              (λ below. let e : length before ≡ pc = omega arith in (JumpIf test operand skips, subst (λ q. IsAt after q (JumpIf test operand skips)) e at, λ is. absurd is))
              (λ above. let e : length before + 1 ≡ pc = omega arith in
              (Jump 0, subst (λ q. IsAt after q (Jump 0)) e jump, λ is. record { place = length before; inside = omega arith; before = omega arith; beside = omega arith; far = omega arith }))
              (cases_lt pc (length before + 1));
        }

-- ---- the two ways

false_last : WhenTrue ≡ WhenFalse → ⊥
false_last e = cc

true_last : WhenFalse ≡ WhenTrue → ⊥
true_last e = cc

-- which jump is how long where the label is far
pub skip_over : (skip : ℕ) (far : Bool) → far ≡ true → skip ≡ 1 → skip ≡ (if far then 1 else 0)
skip_over skip far is one = one ∙ sym (ap (λ b. if b then 1 else 0) is)

pub skip_none : (skip : ℕ) (far : Bool) → far ≡ false → skip ≡ 0 → skip ≡ (if far then 1 else 0)
skip_none skip far is none = none ∙ sym (ap (λ b. if b then 1 else 0) is)

module _ (before mid after : List ℕ) (p skip : ℕ) (test : Test) (operand : Operand) (old new : LabelValue) (begins : p ≡ length before) (same : new.by ≡ old.by) where
  -- it falls through where it holds
  branches_unless : (b : Bool) (skips : Offsets) → skips ≡ offsets (if b then 1 else 0) 0 → Tells (length before) old.by b → IsAppended (JumpIf test operand skips) before mid → IsNoted b (length before) WhenFalse mid after old new → Guards (Checks (λ a. a) (asks test operand)) 2 before after old new
  branches_unless false skips is told does noted = subst (λ l. Guards (Checks (λ a. a) (asks test operand)) 2 before l old new) (sym noted.0)
      (near (Checks (λ a. a) (asks test operand)) test operand WhenTrue WhenFalse false_last
      (λ program q on_yes on_no led. test_checks program q on_yes on_no test operand led.0 led.1 led.2 led.3 led.4)
      (λ program q on_yes on_no led. test_faultless program q on_yes on_no test operand led.0 led.1 led.2 led.3 led.4)
      (λ at_yes at_no near_no words comes checks. through (asks test operand) at_yes at_no at_yes near_no words (comes_here at_yes) comes checks)
      before old new skips same 0 (rw is refl) (rw is refl) (told.if_near refl) does noted.1)
  branches_unless true skips is told does noted =
      far (Checks (λ a. a) (asks test operand)) test operand WhenTrue WhenFalse false_last
      (λ program q on_yes on_no led. test_checks program q on_yes on_no test operand led.0 led.1 led.2 led.3 led.4)
      (λ program q on_yes on_no led. test_faultless program q on_yes on_no test operand led.0 led.1 led.2 led.3 led.4)
      (λ at_yes at_no near_no words comes checks. through (asks test operand) at_yes at_no at_yes near_no words (comes_here at_yes) comes checks)
      before old new skips same (rw is refl) (rw is refl) (told.if_far refl) does noted.0 noted.1

  -- it falls through where it does not
  branches_if : (b : Bool) (skips : Offsets) → skips ≡ offsets 0 (if b then 1 else 0) → Tells (length before) old.by b → IsAppended (JumpIf test operand skips) before mid → IsNoted b (length before) WhenTrue mid after old new → Guards (λ at_no at_yes words. Checks (λ a. a) (asks test operand) at_yes at_no words) 2 before after old new
  branches_if false skips is told does noted = subst (λ l. Guards (λ at_no at_yes words. Checks (λ a. a) (asks test operand) at_yes at_no words) 2 before l old new) (sym noted.0)
      (near (λ at_no at_yes words. Checks (λ a. a) (asks test operand) at_yes at_no words) test operand WhenFalse WhenTrue true_last
      (λ program q on_no on_yes led. test_checks program q on_yes on_no test operand led.0 led.1 led.2 led.4 led.3)
      (λ program q on_no on_yes led c d. test_faultless program q on_yes on_no test operand led.0 led.1 led.2 led.4 led.3 d c)
      (λ at_no at_yes near_yes words comes checks. through (asks test operand) at_yes at_no near_yes at_no words comes (comes_here at_no) checks)
      before old new skips same 0 (rw is refl) (rw is refl) (told.if_near refl) does noted.1)
  branches_if true skips is told does noted =
      far (λ at_no at_yes words. Checks (λ a. a) (asks test operand) at_yes at_no words) test operand WhenFalse WhenTrue true_last
      (λ program q on_no on_yes led. test_checks program q on_yes on_no test operand led.0 led.1 led.2 led.4 led.3)
      (λ program q on_no on_yes led c d. test_faultless program q on_yes on_no test operand led.0 led.1 led.2 led.4 led.3 d c)
      (λ at_no at_yes near_yes words comes checks. through (asks test operand) at_yes at_no near_yes at_no words comes (comes_here at_no) checks)
      before old new skips same (rw is refl) (rw is refl) (told.if_far refl) does noted.0 noted.1

  pub branch_unless_guards : (b : Bool) → Tells p old.by b → skip ≡ (if b then 1 else 0) → IsAppended (JumpIf test operand (offsets skip 0)) before mid → IsNoted b p WhenFalse mid after old new → Guards (Checks (λ a. a) (asks test operand)) 2 before after old new
  branch_unless_guards b told is does noted = branches_unless b (offsets skip 0) (ap (λ n. offsets n 0) is) (subst (λ q. Tells q old.by b) begins told) does (subst (λ q. IsNoted b q WhenFalse mid after old new) begins noted)

  pub branch_if_guards : (b : Bool) → Tells p old.by b → skip ≡ (if b then 1 else 0) → IsAppended (JumpIf test operand (offsets 0 skip)) before mid → IsNoted b p WhenTrue mid after old new
      → Guards (λ at_no at_yes words. Checks (λ a. a) (asks test operand) at_yes at_no words) 2 before after old new
  branch_if_guards b told is does noted = branches_if b (offsets 0 skip) (ap (λ n. offsets 0 n) is) (subst (λ q. Tells q old.by b) begins told) does (subst (λ q. IsNoted b q WhenTrue mid after old new) begins noted)
