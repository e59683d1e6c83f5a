-- An instruction that goes to a label always: a JA, or a test both jumps of which go there.
use Rattle.std.proofs.Common.{◌≡◌, ◌∙◌, ◌+◌, ◌++◌, ◌∷◌, ◌<◌, ◌≤◌, ◌⊎◌, Bool, List, [], ap, append_assoc, arith, cond, drop, false, inl, inr, length, refl, subst, suc, sym, true, zero, ℕ, ⊎_elim}
use Rattle.std.specs.Prelude.{Contains}
use Rattle.std.proofs.lemmas.List.{append-nil}
use Rattle.bpf_insn.specs.declared.instruction.Insn.TheVariants.{Jump, JumpIf}
use Rattle.bpf_insn.specs.declared.instruction.Operand.{Operand}
use Rattle.bpf_insn.specs.declared.instruction.Test.{Test}
use Rattle.bpf_insn.specs.Table.{offsets}
use Rattle.bpf_verify.specs.Accepted.{IsFaultless}
use Rattle.bpf_verify.specs.Path.{IsAt}
use Rattle.bpf_machine.specs.Meaning.{mean}
use Rattle.filter_emit.specs.declared.fixup.Fixup.{Fixup}
use Rattle.filter_emit.specs.declared.fixup.Side.TheVariants.{Always, WhenFalse, WhenTrue}
use Rattle.filter_emit.specs.Checks.{Checks, asks}
use Rattle.filter_emit.specs.Fixups.{CanReach, HasJump, IsAppended, IsFilled, LabelValue, fixup_at}
use Rattle.filter_emit.specs.Pieces.{IsPiece, Writes}
use Rattle.filter_emit.specs.Runs.{ComesTo, GoesToYes}
use Rattle.filter_emit.proofs.BranchLemmas.{first_of, only}
use Rattle.filter_emit.proofs.JumpLemmas.{filled_jump, jump_comes, jump_faultless, test_checks, test_faultless}
use Rattle.filter_emit.proofs.BindLemmas.{appended_at, appended_long, appended_longer}
use Rattle.filter_emit.proofs.PartLemmas.{no_fixup}

-- ---- a JA

module _ (code : List ℕ) (p : ℕ) (at : IsAt code p (Jump 0)) where
  module _ (program : List ℕ) (on_yes on_no : ℕ) (full : IsFilled p (p + 1) code (fixup_at p Always ∷ []) [] on_yes on_no program) where
    filled : (k : ℕ) × IsAt program p (Jump k) × (on_yes ≡ p + 1 + k)
    filled = let s = full.stands p (omega arith) (omega arith) (Jump 0) at in filled_jump program p on_yes s.0 s.1 s.2 (full.yes_filled (fixup_at p Always) (first_of (fixup_at p Always)))

  far_piece : IsPiece GoesToYes 1 p (p + 1) code (fixup_at p Always ∷ []) []
  far_piece = record {
    forward = omega arith;
    light = omega arith;
    yes_within = λ fixup is. let e = ap (λ h. h.place) (only (fixup_at p Always) fixup is) in (omega arith, omega arith);
    no_within = λ fixup none. no_fixup fixup none;
    apart = λ fixup is none. no_fixup fixup none;
    meant = λ program on_yes on_no a b c d full. let f = filled program on_yes on_no full in jump_comes program p f.0 on_yes f.1 f.2;
    sound = λ program on_yes on_no a b c d full pc low high. let f = filled program on_yes on_no full in let e : p ≡ pc = omega arith in
        subst (IsFaultless program) e (jump_faultless program p f.0 on_yes f.1 f.2 c);
  }

pub always_far : (before after : List ℕ) (old new : LabelValue) → length before + 256 < old.by → IsAppended (Jump 0) before after → new.fixups ≡ old.fixups ++ fixup_at (length before) Always ∷ [] → new.by ≡ old.by
    → (other : LabelValue) → Writes GoesToYes 1 before after old new other other
always_far before after old new far does grows same other = let long = appended_long (Jump 0) before after does in record {
  ys = fixup_at (length before) Always ∷ [];
  ns = [];
  longer = appended_longer (Jump 0) before after does;
  yes_grows = grows;
  no_grows = sym (append-nil other.fixups);
  yes_by = same;
  no_by = refl;
  piece = subst (λ e. IsPiece GoesToYes 1 (length before) e after (fixup_at (length before) Always ∷ []) []) (sym long) (far_piece after (length before) (appended_at (Jump 0) before after does));
  yes_open = λ fixup is. subst (λ h. HasJump after h.place h.side × CanReach h.place h.side old.by) (sym (only (fixup_at (length before) Always) fixup is)) ((Jump 0, 0, appended_at (Jump 0) before after does, refl), tt);
  no_open = λ fixup none. no_fixup fixup none;
  far_jumps = λ last low_yes low_no pc low high. let e : length before ≡ pc = omega arith in
      (Jump 0, subst (λ q. IsAt after q (Jump 0)) e (appended_at (Jump 0) before after does), λ is. record { place = length before; inside = omega arith; before = omega arith; beside = omega arith; far = omega arith });
}

-- ---- a test both jumps of which go there

abbrev both : ℕ → List Fixup
both p = fixup_at p WhenTrue ∷ fixup_at p WhenFalse ∷ []

either_fixup : (p : ℕ) (fixup : Fixup) → Contains (both p) fixup → (fixup ≡ fixup_at p WhenTrue) ⊎ (fixup ≡ fixup_at p WhenFalse)
either_fixup p fixup (zero, inside, is) = inl (sym is)
either_fixup p fixup (suc zero, inside, is) = inr (sym is)
either_fixup p fixup (suc (suc k), inside, is) = absurd (omega arith)

first_fixup : (p : ℕ) → Contains (both p) (fixup_at p WhenTrue)
first_fixup p = (0, omega arith, refl)

second_fixup : (p : ℕ) → Contains (both p) (fixup_at p WhenFalse)
second_fixup p = (1, omega arith, refl)

same_ways : {A : Type 0} → (b : Bool) (there : A) → cond b there there ≡ there
same_ways true there = refl
same_ways false there = refl

goes_always : (test : Test) (operand : Operand) (there words : List ℕ) → Checks (λ a. a) (asks test operand) there there words → ComesTo there words
goes_always test operand there words h = record {
  loads_stored = λ d ok. h.loads_stored d ok ok;
  goes = λ packet a x cells. h.goes packet a x cells ∙ ap (λ l. mean l a x cells packet) (same_ways (asks test operand a x) there);
}

module _ (code : List ℕ) (p : ℕ) (test : Test) (operand : Operand) (at : IsAt code p (JumpIf test operand (offsets 0 0))) where
  near_piece : IsPiece GoesToYes 1 p (p + 1) code (both p) []
  near_piece = record {
    forward = omega arith;
    light = omega arith;
    yes_within = λ fixup is. ⊎_elim (λ e. let f = ap (λ h. h.place) e in (omega arith, omega arith)) (λ e. let f = ap (λ h. h.place) e in (omega arith, omega arith)) (either_fixup p fixup is);
    no_within = λ fixup none. no_fixup fixup none;
    apart = λ fixup is none. no_fixup fixup none;
    meant = λ program on_yes on_no a b c d full. let s = full.stands p (omega arith) (omega arith) (JumpIf test operand (offsets 0 0)) at in
        goes_always test operand (drop on_yes program) (drop p program)
        (test_checks program p on_yes on_yes test operand s.0 s.1 s.2 (full.yes_filled (fixup_at p WhenTrue) (first_fixup p)) (full.yes_filled (fixup_at p WhenFalse) (second_fixup p)));
    sound = λ program on_yes on_no a b c d full pc low high. let s = full.stands p (omega arith) (omega arith) (JumpIf test operand (offsets 0 0)) at in let e : p ≡ pc = omega arith in
        subst (IsFaultless program) e
        (test_faultless program p on_yes on_yes test operand s.0 s.1 s.2 (full.yes_filled (fixup_at p WhenTrue) (first_fixup p)) (full.yes_filled (fixup_at p WhenFalse) (second_fixup p)) c c);
  }

pub always_near : (before after : List ℕ) (old mid new : LabelValue) (test : Test) (operand : Operand) → old.by ≤ length before + 256 → IsAppended (JumpIf test operand (offsets 0 0)) before after
    → mid.fixups ≡ old.fixups ++ fixup_at (length before) WhenTrue ∷ [] → new.fixups ≡ mid.fixups ++ fixup_at (length before) WhenFalse ∷ [] → new.by ≡ old.by
    → (other : LabelValue) → Writes GoesToYes 1 before after old new other other
always_near before after old mid new test operand near does first second same other =
    let long = appended_long (JumpIf test operand (offsets 0 0)) before after does in let at = appended_at (JumpIf test operand (offsets 0 0)) before after does in record {
      ys = both (length before);
      ns = [];
      longer = appended_longer (JumpIf test operand (offsets 0 0)) before after does;
      yes_grows = second ∙ (ap (λ fixups. fixups ++ fixup_at (length before) WhenFalse ∷ []) first ∙ append_assoc old.fixups (fixup_at (length before) WhenTrue ∷ []) (fixup_at (length before) WhenFalse ∷ []));
      no_grows = sym (append-nil other.fixups);
      yes_by = same;
      no_by = refl;
      piece = subst (λ e. IsPiece GoesToYes 1 (length before) e after (both (length before)) []) (sym long) (near_piece after (length before) test operand at);
      yes_open = λ fixup is. ⊎_elim
          (λ e. subst (λ h. HasJump after h.place h.side × CanReach h.place h.side old.by) (sym e) ((JumpIf test operand (offsets 0 0), 0, at, refl), near))
          (λ e. subst (λ h. HasJump after h.place h.side × CanReach h.place h.side old.by) (sym e) ((JumpIf test operand (offsets 0 0), 0, at, refl), near)) (either_fixup (length before) fixup is);
      no_open = λ fixup none. no_fixup fixup none;
      far_jumps = λ last low_yes low_no pc low high. let e : length before ≡ pc = omega arith in
          (JumpIf test operand (offsets 0 0), subst (λ q. IsAt after q (JumpIf test operand (offsets 0 0))) e at, λ is. absurd is);
    }
