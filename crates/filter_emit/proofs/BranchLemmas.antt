-- A test that is written: each of its two jumps waits itself, or leads to a JA behind it, which waits.
use Rattle.std.proofs.Common.{◌≡◌, ◌∙◌, ◌+◌, ◌++◌, ◌∷◌, ◌<◌, ◌≤◌, ◌⊎◌, Bool, List, Some, [], ap, arith, cond, drop, false, inl, inr, length, refl, subst, suc, sym, true, zero, ℕ, ⊎_elim}
use Rattle.std.specs.Prelude.{◌&&◌, if◌then◌else◌, Contains}
use Rattle.std.proofs.lemmas.Bool.{cases_lt, le-ltb, lt-ltb}
use Rattle.bpf_insn.specs.declared.instruction.Insn.{Insn}
use Rattle.bpf_insn.specs.declared.instruction.Insn.TheVariants.{Jump, JumpIf}
use Rattle.bpf_insn.specs.declared.instruction.Operand.{Operand}
use Rattle.bpf_insn.specs.declared.instruction.Test.{Test}
use Rattle.bpf_insn.specs.Table.{offsets}
use Rattle.bpf_verify.specs.Accepted.{IsFaultless}
use Rattle.bpf_verify.specs.Path.{IsAt}
use Rattle.bpf_machine.specs.Meaning.{Cells, mean}
use Rattle.filter_emit.specs.declared.fixup.Fixup.{Fixup}
use Rattle.filter_emit.specs.declared.fixup.Side.{Side}
use Rattle.filter_emit.specs.declared.fixup.Side.TheVariants.{Always, WhenFalse, WhenTrue}
use Rattle.filter_emit.specs.Checks.{Checks, asks}
use Rattle.filter_emit.specs.Fixups.{CanReach, HasJump, IsAppended, IsFilled, IsFixup, IsLonger, LabelValue, LeadsTo, fixup_at, offset_of, shape_of}
use Rattle.filter_emit.specs.Pieces.{HasFarJumpsOnly, IsFarFrom, IsJump, IsPiece, Writes, far_words}
use Rattle.filter_emit.specs.Runs.{ComesTo}
use Rattle.filter_emit.specs.body.Noting.{IsNoted}
use Rattle.filter_emit.proofs.JumpLemmas.{filled_jump, jump_comes, jump_faultless, test_checks, test_faultless}
use Rattle.filter_emit.proofs.BindLemmas.{appended_at, appended_long, appended_longer, longer_both, reach_near}

-- the only fixup
pub only : (fixup other : Fixup) → Contains (fixup ∷ []) other → other ≡ fixup
only fixup other (zero, inside, is) = sym is
only fixup other (suc k, inside, is) = absurd (omega arith)

pub first_of : (fixup : Fixup) → Contains (fixup ∷ []) fixup
first_of fixup = (0, omega arith, refl)

-- the fixup of the yes jump or of the no jump is this jump
abbrev Waits : Fixup → Fixup → ℕ → Side → Type 0
Waits hy hn place side = IsFixup (hy ∷ []) place side ⊎ IsFixup (hn ∷ []) place side

-- how a jump of the test at p goes on
abbrev IsNear : ℕ → Side → ℕ → Fixup → Type 0
IsNear p side by fixup = (fixup ≡ fixup_at p side) × (by ≤ p + 256)

record IsFar (hy hn : Fixup) (code : List ℕ) (p until : ℕ) (side : Side) (skip by : ℕ) (fixup : Fixup) : Type 0 where
  is : fixup ≡ fixup_at (p + 1 + skip) Always
  far : p + 256 < by
  inside : p + 1 + skip < until
  jump : IsAt code (p + 1 + skip) (Jump 0)
  closed : ¬ Waits hy hn p side

abbrev IsWay : Fixup → Fixup → List ℕ → ℕ → ℕ → Side → ℕ → ℕ → Fixup → Type 0
IsWay hy hn code p until side skip by fixup = IsNear p side by fixup ⊎ IsFar hy hn code p until side skip by fixup

-- a check that goes to its targets by ways that change nothing
pub through : (check : ℕ → ℕ → Bool) (at_yes at_no near_yes near_no words : List ℕ) → ComesTo at_yes near_yes → ComesTo at_no near_no → Checks (λ a. a) check near_yes near_no words → Checks (λ a. a) check at_yes at_no words
through check at_yes at_no near_yes near_no words yes_comes no_comes h = record {
  loads_stored = λ d y n. h.loads_stored d (yes_comes.loads_stored d y) (no_comes.loads_stored d n);
  goes = λ packet a x cells. h.goes packet a x cells ∙ either (check a x) packet a x cells;
} where
  either : (b : Bool) (packet : List ℕ) (a x : ℕ) (cells : Cells) → mean (cond b near_yes near_no) a x cells packet ≡ mean (cond b at_yes at_no) a x cells packet
  either true packet a x cells = yes_comes.goes packet a x cells
  either false packet a x cells = no_comes.goes packet a x cells

pub comes_here : (words : List ℕ) → ComesTo words words
comes_here words = record { loads_stored = λ d h. h; goes = λ packet a x cells. refl }

module _ (code : List ℕ) (p until by_yes by_no jt jf : ℕ) (test : Test) (operand : Operand) (hy hn : Fixup) (at : IsAt code p (JumpIf test operand (offsets jt jf))) (some : p < until) (few : until ≤ p + 3) (apart : hy ≡ hn → ⊥)
    (yes_way : IsWay hy hn code p until WhenTrue jt by_yes hy) (no_way : IsWay hy hn code p until WhenFalse jf by_no hn)
    (covers : (pc : ℕ) → p ≤ pc → pc < until → (pc ≡ p) ⊎ ((pc ≡ hy.place) ⊎ (pc ≡ hn.place))) where
  -- where a jump of the test leads to in a program, and how it comes to its target from there
  abbrev Leads : List ℕ → ℕ → Side → Type 0
  Leads program target side = (to : ℕ) × LeadsTo program p side to × (to < length program) × ComesTo (drop target program) (drop to program)

  within : (side : Side) (skip by : ℕ) (fixup : Fixup) → IsWay hy hn code p until side skip by fixup → (p ≤ fixup.place) × (fixup.place < until)
  within side skip by fixup (inl near) = let e = ap (λ h. h.place) near.0 in (omega arith, omega arith)
  within side skip by fixup (inr far) = let e = ap (λ h. h.place) far.is in let i = far.inside in (omega arith, omega arith)

  has_jump : (side : Side) (skip by : ℕ) (fixup : Fixup) → offset_of side (JumpIf test operand (offsets jt jf)) ≡ Some skip → IsWay hy hn code p until side skip by fixup → HasJump code fixup.place fixup.side × CanReach fixup.place fixup.side by
  has_jump side skip by fixup has (inl near) =
      subst (λ h. HasJump code h.place h.side × CanReach h.place h.side by) (sym near.0) ((JumpIf test operand (offsets jt jf), skip, at, has), reach_near p side by near.1)
  has_jump side skip by fixup has (inr far) =
      subst (λ h. HasJump code h.place h.side × CanReach h.place h.side by) (sym far.is) ((Jump 0, 0, far.jump, refl), tt)

  module _ (program : List ℕ) (on_yes on_no : ℕ) (yes_behind : until ≤ on_yes) (no_behind : until ≤ on_no) (yes_inside : on_yes < length program) (no_inside : on_no < length program)
      (full : IsFilled p until code (hy ∷ []) (hn ∷ []) on_yes on_no program) where
    abbrev Stood : Type 0
    Stood = (later : Insn) × IsAt program p later × (shape_of later ≡ JumpIf test operand (offsets 0 0)) × ((side : Side) → Waits hy hn p side ⊎ (offset_of side later ≡ offset_of side (JumpIf test operand (offsets jt jf))))

    stood : Stood
    stood = full.stands p (omega arith) some (JumpIf test operand (offsets jt jf)) at

    leads : (side : Side) (skip by target : ℕ) (fixup : Fixup) → offset_of side (JumpIf test operand (offsets jt jf)) ≡ Some skip → target < length program → LeadsTo program fixup.place fixup.side target
        → IsWay hy hn code p until side skip by fixup → Leads program target side
    leads side skip by target fixup has inside filled (inl near) = (target, subst (λ h. LeadsTo program h.place h.side target) near.0 filled, inside, comes_here (drop target program))
    leads side skip by target fixup has inside filled (inr far) =
        let s = full.stands (p + 1 + skip) (omega arith) far.inside (Jump 0) far.jump in
        let j = filled_jump program (p + 1 + skip) target s.0 s.1 s.2 (subst (λ h. LeadsTo program h.place h.side target) far.is filled) in
        let same : offset_of side stood.0 ≡ Some skip = ⊎_elim (λ waits. absurd (far.closed waits)) (λ same. same ∙ has) (stood.3 side) in
        (p + 1 + skip, (stood.0, skip, stood.1, same, refl), (let i = far.inside in omega arith), jump_comes program (p + 1 + skip) j.0 target j.1 j.2)

    way_sound : (side : Side) (skip by target : ℕ) (fixup : Fixup) → target < length program → LeadsTo program fixup.place fixup.side target → IsWay hy hn code p until side skip by fixup → IsFaultless program p → IsFaultless program fixup.place
    way_sound side skip by target fixup inside filled (inl near) test_ok = subst (λ h. IsFaultless program h.place) (sym near.0) test_ok
    way_sound side skip by target fixup inside filled (inr far) test_ok =
        let s = full.stands (p + 1 + skip) (omega arith) far.inside (Jump 0) far.jump in
        let j = filled_jump program (p + 1 + skip) target s.0 s.1 s.2 (subst (λ h. LeadsTo program h.place h.side target) far.is filled) in
        subst (λ h. IsFaultless program h.place) (sym far.is) (jump_faultless program (p + 1 + skip) j.0 target j.1 j.2 inside)

    abbrev yes_filled : LeadsTo program hy.place hy.side on_yes
    yes_filled = full.yes_filled hy (first_of hy)

    abbrev no_filled : LeadsTo program hn.place hn.side on_no
    no_filled = full.no_filled hn (first_of hn)

    yes_leads : Leads program on_yes WhenTrue
    yes_leads = leads WhenTrue jt by_yes on_yes hy refl yes_inside yes_filled yes_way

    no_leads : Leads program on_no WhenFalse
    no_leads = leads WhenFalse jf by_no on_no hn refl no_inside no_filled no_way

    branch_meant : Checks (λ a. a) (asks test operand) (drop on_yes program) (drop on_no program) (drop p program)
    branch_meant = through (asks test operand) (drop on_yes program) (drop on_no program) (drop yes_leads.0 program) (drop no_leads.0 program) (drop p program) yes_leads.3 no_leads.3
        (test_checks program p yes_leads.0 no_leads.0 test operand stood.0 stood.1 stood.2 yes_leads.1 no_leads.1)

    faultless_here : IsFaultless program p
    faultless_here = test_faultless program p yes_leads.0 no_leads.0 test operand stood.0 stood.1 stood.2 yes_leads.1 no_leads.1 yes_leads.2 no_leads.2

    branch_sound : (pc : ℕ) → p ≤ pc → pc < until → IsFaultless program pc
    branch_sound pc low high = ⊎_elim (λ e. subst (IsFaultless program) (sym e) faultless_here) (λ more. ⊎_elim
        (λ e. subst (IsFaultless program) (sym e) (way_sound WhenTrue jt by_yes on_yes hy yes_inside yes_filled yes_way faultless_here))
        (λ e. subst (IsFaultless program) (sym e) (way_sound WhenFalse jf by_no on_no hn no_inside no_filled no_way faultless_here)) more) (covers pc low high)

  branch_piece : IsPiece (Checks (λ a. a) (asks test operand)) 3 p until code (hy ∷ []) (hn ∷ [])
  branch_piece = record {
    forward = omega arith;
    light = omega arith;
    yes_within = λ fixup is. subst (λ h. (p ≤ h.place) × (h.place < until)) (sym (only hy fixup is)) (within WhenTrue jt by_yes hy yes_way);
    no_within = λ fixup is. subst (λ h. (p ≤ h.place) × (h.place < until)) (sym (only hn fixup is)) (within WhenFalse jf by_no hn no_way);
    apart = λ fixup y n. apart (sym (only hy fixup y) ∙ only hn fixup n);
    meant = branch_meant;
    sound = branch_sound;
  }

  -- at a place stands the test, or a JA for a label that is far from the test
  abbrev IsSparing : ℕ → ℕ → Type 0
  IsSparing last pc = (insn : Insn) × IsAt code pc insn × (IsJump insn → IsFarFrom last p pc)

  test_sparing : (last : ℕ) → IsSparing last p
  test_sparing last = (JumpIf test operand (offsets jt jf), at, λ is. absurd is)

  way_sparing : (last : ℕ) (side : Side) (skip by : ℕ) (fixup : Fixup) → by ≤ last → IsWay hy hn code p until side skip by fixup → IsSparing last fixup.place
  way_sparing last side skip by fixup low (inl near) = subst (IsSparing last) (sym (ap (λ h. h.place) near.0)) (test_sparing last)
  way_sparing last side skip by fixup low (inr far) =
      let f = far.far in let i = far.inside in
      subst (IsSparing last) (sym (ap (λ h. h.place) far.is)) (Jump 0, far.jump, λ is. record { place = p; inside = omega arith; before = omega arith; beside = omega arith; far = omega arith })

  branch_far_jumps : (last : ℕ) → by_yes ≤ last → by_no ≤ last → HasFarJumpsOnly last p until code
  branch_far_jumps last low_yes low_no pc low high = ⊎_elim (λ e. subst (IsSparing last) (sym e) (test_sparing last)) (λ more. ⊎_elim
      (λ e. subst (IsSparing last) (sym e) (way_sparing last WhenTrue jt by_yes hy low_yes yes_way))
      (λ e. subst (IsSparing last) (sym e) (way_sparing last WhenFalse jf by_no hn low_no no_way)) more) (covers pc low high)

  branch_written : (before : List ℕ) (yes_old yes_new no_old no_new : LabelValue) → p ≡ length before → until ≡ length code → by_yes ≡ yes_old.by → by_no ≡ no_old.by → IsLonger before code
      → yes_new.fixups ≡ yes_old.fixups ++ hy ∷ [] → no_new.fixups ≡ no_old.fixups ++ hn ∷ [] → yes_new.by ≡ yes_old.by → no_new.by ≡ no_old.by
      → Writes (Checks (λ a. a) (asks test operand)) 3 before code yes_old yes_new no_old no_new
  branch_written before yes_old yes_new no_old no_new begins ends yes_is no_is grows yes_grows no_grows yes_by no_by = record {
    ys = hy ∷ [];
    ns = hn ∷ [];
    longer = grows;
    yes_grows = yes_grows;
    no_grows = no_grows;
    yes_by = yes_by;
    no_by = no_by;
    piece = subst (λ b. IsPiece (Checks (λ a. a) (asks test operand)) 3 b (length code) code (hy ∷ []) (hn ∷ [])) begins
        (subst (λ e. IsPiece (Checks (λ a. a) (asks test operand)) 3 p e code (hy ∷ []) (hn ∷ [])) ends branch_piece);
    yes_open = λ fixup is. subst (λ h. HasJump code h.place h.side × CanReach h.place h.side yes_old.by) (sym (only hy fixup is))
        (subst (λ by. HasJump code hy.place hy.side × CanReach hy.place hy.side by) yes_is (has_jump WhenTrue jt by_yes hy refl yes_way));
    no_open = λ fixup is. subst (λ h. HasJump code h.place h.side × CanReach h.place h.side no_old.by) (sym (only hn fixup is))
        (subst (λ by. HasJump code hn.place hn.side × CanReach hn.place hn.side by) no_is (has_jump WhenFalse jf by_no hn refl no_way));
    far_jumps = λ last low_yes low_no. subst (λ b. HasFarJumpsOnly last b (length code) code) begins (subst (λ e. HasFarJumpsOnly last p e code) ends (branch_far_jumps last (omega arith) (omega arith)));
  }

-- ---- what was written

-- it is told whether a place is far from a test
pub record Tells (test by : ℕ) (far : Bool) : Type 0 where
  pub if_far : far ≡ true → test + 256 < by
  pub if_near : far ≡ false → by ≤ test + 256

told_words : (test by : ℕ) (far : Bool) → Tells test by far → (if far then 1 else 0) ≡ far_words test by
told_words test by true told = sym (ap (λ b. if b then 1 else 0) (lt-ltb (test + 256) by (told.if_far refl)))
told_words test by false told = sym (ap (λ b. if b then 1 else 0) (le-ltb (test + 256) by (told.if_near refl)))

-- how far the no jump of the test leads: over the JA of the yes jump to one of its own, or not
abbrev pub skip_of : Bool → Bool → ℕ
skip_of far_yes far_no = if far_yes && far_no then 1 else 0

pub skip_both : (jf : ℕ) (far_yes far_no : Bool) → far_yes ≡ true → far_no ≡ true → jf ≡ 1 → jf ≡ skip_of far_yes far_no
skip_both jf far_yes far_no yes_far no_far is = is ∙ sym (ap (λ far. skip_of far far_no) yes_far ∙ ap (λ far. skip_of true far) no_far)

pub skip_not : (jf : ℕ) (far_yes far_no : Bool) → ((far_yes ≡ true) × (far_no ≡ false)) ⊎ (far_yes ≡ false) → jf ≡ 0 → jf ≡ skip_of far_yes far_no
skip_not jf far_yes far_no which is = ⊎_elim
    (λ far. is ∙ sym (ap (λ b. skip_of b far_no) far.0 ∙ ap (λ b. skip_of true b) far.1))
    (λ near. is ∙ sym (ap (λ b. skip_of b far_no) near)) which

true_false : WhenTrue ≡ WhenFalse → ⊥
true_false e = cc

true_always : WhenTrue ≡ Always → ⊥
true_always e = cc

false_true : WhenFalse ≡ WhenTrue → ⊥
false_true e = cc

false_always : WhenFalse ≡ Always → ⊥
false_always e = cc

always_false : Always ≡ WhenFalse → ⊥
always_false e = cc

closed_by : (hy hn : Fixup) (p : ℕ) (side : Side) → (side ≡ hy.side → ⊥) → (side ≡ hn.side → ⊥) → ¬ Waits hy hn p side
closed_by hy hn p side yes_other no_other waits = ⊎_elim (λ y. yes_other (ap (λ h. h.side) (only hy (fixup_at p side) y))) (λ n. no_other (ap (λ h. h.side) (only hn (fixup_at p side) n))) waits

-- how many words were written
noted_words : (far : Bool) (place : ℕ) (side : Side) (code later : List ℕ) (old new : LabelValue) → IsNoted far place side code later old new → length later ≡ length code + (if far then 1 else 0)
noted_words false place side code later old new h = omega (arith, ap length h.0)
noted_words true place side code later old new h = appended_long (Jump 0) code later h.0

pub fall_through_words : (far : Bool) (p : ℕ) (side : Side) (insn : Insn) (before mid after : List ℕ) (old new : LabelValue) → p ≡ length before → IsAppended insn before mid → Tells p old.by far → IsNoted far p side mid after old new
    → length after ≡ p + 1 + far_words p old.by
fall_through_words far p side insn before mid after old new begins does told noted = omega (arith, begins, appended_long insn before mid does, noted_words far p side mid after old new noted, told_words p old.by far told)

pub branch_words : (far_yes far_no : Bool) (p : ℕ) (insn : Insn) (before c1 c2 c3 : List ℕ) (yes_old yes_new no_old no_new : LabelValue) → p ≡ length before → IsAppended insn before c1
    → Tells p yes_old.by far_yes → Tells p no_old.by far_no → IsNoted far_yes p WhenTrue c1 c2 yes_old yes_new → IsNoted far_no p WhenFalse c2 c3 no_old no_new → length c3 ≡ p + 1 + far_words p yes_old.by + far_words p no_old.by
branch_words far_yes far_no p insn before c1 c2 c3 yes_old yes_new no_old no_new begins does yes_told no_told yes_noted no_noted =
    omega (arith, begins, appended_long insn before c1 does, noted_words far_yes p WhenTrue c1 c2 yes_old yes_new yes_noted, noted_words far_no p WhenFalse c2 c3 no_old no_new no_noted, told_words p yes_old.by far_yes yes_told, told_words p no_old.by far_no no_told)

module _ (before c1 c2 c3 : List ℕ) (p jf : ℕ) (test : Test) (operand : Operand) (yes_old yes_new no_old no_new : LabelValue) (begins : p ≡ length before) (does : IsAppended (JumpIf test operand (offsets 0 jf)) before c1)
    (yes_by : yes_new.by ≡ yes_old.by) (no_by : no_new.by ≡ no_old.by) where
  abbrev Written : Type 0
  Written = Writes (Checks (λ a. a) (asks test operand)) 3 before c3 yes_old yes_new no_old no_new

  long : length c1 ≡ p + 1
  long = appended_long (JumpIf test operand (offsets 0 jf)) before c1 does ∙ ap (λ n. n + 1) (sym begins)

  at_first : IsAt c1 p (JumpIf test operand (offsets 0 jf))
  at_first = subst (λ n. IsAt c1 n (JumpIf test operand (offsets 0 jf))) (sym begins) (appended_at (JumpIf test operand (offsets 0 jf)) before c1 does)

  at_as : (skips : ℕ) → jf ≡ skips → (code : List ℕ) → IsLonger c1 code → IsAt code p (JumpIf test operand (offsets 0 skips))
  at_as skips is code grows = grows p (JumpIf test operand (offsets 0 skips)) (subst (λ j. IsAt c1 p (JumpIf test operand (offsets 0 j))) is at_first)

  grown : (code : List ℕ) → IsLonger c1 code → IsLonger before code
  grown code grows = longer_both before c1 code (appended_longer (JumpIf test operand (offsets 0 jf)) before c1 does) grows

  same_longer : (code later : List ℕ) → later ≡ code → IsLonger code later
  same_longer code later same pc insn at = subst (λ l. IsAt l pc insn) (sym same) at

  near_near : jf ≡ 0 → yes_old.by ≤ p + 256 → c2 ≡ c1 → yes_new.fixups ≡ yes_old.fixups ++ fixup_at p WhenTrue ∷ [] → no_old.by ≤ p + 256 → c3 ≡ c2 → no_new.fixups ≡ no_old.fixups ++ fixup_at p WhenFalse ∷ [] → Written
  near_near skip short_yes same yes_grows short_no same' no_grows =
      let grows : IsLonger c1 c3 = same_longer c1 c3 (same' ∙ same) in let l : length c3 ≡ p + 1 = ap length (same' ∙ same) ∙ long in
      branch_written c3 p (p + 1) yes_old.by no_old.by 0 0 test operand (fixup_at p WhenTrue) (fixup_at p WhenFalse) (at_as 0 skip c3 grows) (omega arith) (omega arith)
      (λ e. true_false (ap (λ h. h.side) e)) (inl (refl, short_yes)) (inl (refl, short_no)) (λ pc low high. inl (omega arith))
      before yes_old yes_new no_old no_new begins (sym l) refl refl (grown c3 grows) yes_grows no_grows yes_by no_by

  far_near : jf ≡ 0 → p + 256 < yes_old.by → IsAppended (Jump 0) c1 c2 → yes_new.fixups ≡ yes_old.fixups ++ fixup_at (length c1) Always ∷ [] → no_old.by ≤ p + 256 → c3 ≡ c2 → no_new.fixups ≡ no_old.fixups ++ fixup_at p WhenFalse ∷ [] → Written
  far_near skip far_yes jump yes_grows short_no same no_grows =
      let grows : IsLonger c1 c3 = longer_both c1 c2 c3 (appended_longer (Jump 0) c1 c2 jump) (same_longer c2 c3 same) in
      let l : length c3 ≡ p + 2 = omega (arith, ap length same, appended_long (Jump 0) c1 c2 jump, long) in
      let there : IsAt c3 (p + 1 + 0) (Jump 0) = subst (λ n. IsAt c3 n (Jump 0)) (omega (arith, long)) (same_longer c2 c3 same (length c1) (Jump 0) (appended_at (Jump 0) c1 c2 jump)) in
      branch_written c3 p (p + 2) yes_old.by no_old.by 0 0 test operand (fixup_at (length c1) Always) (fixup_at p WhenFalse) (at_as 0 skip c3 grows) (omega arith) (omega arith)
      (λ e. always_false (ap (λ h. h.side) e))
      (inr (record { is = ap (λ n. fixup_at n Always) (omega (arith, long)); far = far_yes; inside = omega arith; jump = there; closed = closed_by (fixup_at (length c1) Always) (fixup_at p WhenFalse) p WhenTrue true_always true_false }))
      (inl (refl, short_no)) (λ pc low high. ⊎_elim (λ below. inl (omega arith)) (λ up. inr (inl (omega (arith, long)))) (cases_lt pc (p + 1)))
      before yes_old yes_new no_old no_new begins (sym l) refl refl (grown c3 grows) yes_grows no_grows yes_by no_by

  near_far : jf ≡ 0 → yes_old.by ≤ p + 256 → c2 ≡ c1 → yes_new.fixups ≡ yes_old.fixups ++ fixup_at p WhenTrue ∷ [] → p + 256 < no_old.by → IsAppended (Jump 0) c2 c3 → no_new.fixups ≡ no_old.fixups ++ fixup_at (length c2) Always ∷ [] → Written
  near_far skip short_yes same yes_grows far_no jump no_grows =
      let grows : IsLonger c1 c3 = longer_both c1 c2 c3 (same_longer c1 c2 same) (appended_longer (Jump 0) c2 c3 jump) in
      let l : length c3 ≡ p + 2 = omega (arith, ap length same, appended_long (Jump 0) c2 c3 jump, long) in
      let there : IsAt c3 (p + 1 + 0) (Jump 0) = subst (λ n. IsAt c3 n (Jump 0)) (omega (arith, long, ap length same)) (appended_at (Jump 0) c2 c3 jump) in
      branch_written c3 p (p + 2) yes_old.by no_old.by 0 0 test operand (fixup_at p WhenTrue) (fixup_at (length c2) Always) (at_as 0 skip c3 grows) (omega arith) (omega arith)
      (λ e. true_always (ap (λ h. h.side) e)) (inl (refl, short_yes))
      (inr (record { is = ap (λ n. fixup_at n Always) (omega (arith, long, ap length same)); far = far_no; inside = omega arith; jump = there; closed = closed_by (fixup_at p WhenTrue) (fixup_at (length c2) Always) p WhenFalse false_true false_always }))
      (λ pc low high. ⊎_elim (λ below. inl (omega arith)) (λ up. inr (inr (omega (arith, long, ap length same)))) (cases_lt pc (p + 1)))
      before yes_old yes_new no_old no_new begins (sym l) refl refl (grown c3 grows) yes_grows no_grows yes_by no_by

  far_far : jf ≡ 1 → p + 256 < yes_old.by → IsAppended (Jump 0) c1 c2 → yes_new.fixups ≡ yes_old.fixups ++ fixup_at (length c1) Always ∷ [] → p + 256 < no_old.by → IsAppended (Jump 0) c2 c3 → no_new.fixups ≡ no_old.fixups ++ fixup_at (length c2) Always ∷ [] → Written
  far_far skip far_yes jump_yes yes_grows far_no jump_no no_grows =
      let grows : IsLonger c1 c3 = longer_both c1 c2 c3 (appended_longer (Jump 0) c1 c2 jump_yes) (appended_longer (Jump 0) c2 c3 jump_no) in
      let l2 : length c2 ≡ p + 2 = omega (arith, appended_long (Jump 0) c1 c2 jump_yes, long) in
      let l : length c3 ≡ p + 3 = omega (arith, appended_long (Jump 0) c2 c3 jump_no) in
      let first : IsAt c3 (p + 1 + 0) (Jump 0) = subst (λ n. IsAt c3 n (Jump 0)) (omega (arith, long)) (appended_longer (Jump 0) c2 c3 jump_no (length c1) (Jump 0) (appended_at (Jump 0) c1 c2 jump_yes)) in
      let second : IsAt c3 (p + 1 + 1) (Jump 0) = subst (λ n. IsAt c3 n (Jump 0)) (omega arith) (appended_at (Jump 0) c2 c3 jump_no) in
      branch_written c3 p (p + 3) yes_old.by no_old.by 0 1 test operand (fixup_at (length c1) Always) (fixup_at (length c2) Always) (at_as 1 skip c3 grows) (omega arith) (omega arith)
      (λ e. let f = ap (λ h. h.place) e in omega (arith, long))
      (inr (record { is = ap (λ n. fixup_at n Always) (omega (arith, long)); far = far_yes; inside = omega arith; jump = first; closed = closed_by (fixup_at (length c1) Always) (fixup_at (length c2) Always) p WhenTrue true_always true_always }))
      (inr (record { is = ap (λ n. fixup_at n Always) (omega arith); far = far_no; inside = omega arith; jump = second; closed = closed_by (fixup_at (length c1) Always) (fixup_at (length c2) Always) p WhenFalse false_always false_always }))
      (λ pc low high. ⊎_elim (λ below. inl (omega arith)) (λ up. inr (⊎_elim (λ below. inl (omega (arith, long))) (λ up'. inr (omega arith)) (cases_lt pc (p + 2)))) (cases_lt pc (p + 1)))
      before yes_old yes_new no_old no_new begins (sym l) refl refl (grown c3 grows) yes_grows no_grows yes_by no_by

  pub branch_writes : (far_yes far_no : Bool) → Tells p yes_old.by far_yes → Tells p no_old.by far_no → jf ≡ skip_of far_yes far_no
      → IsNoted far_yes p WhenTrue c1 c2 yes_old yes_new → IsNoted far_no p WhenFalse c2 c3 no_old no_new → Written
  branch_writes false false y n skip yes_noted no_noted = near_near skip (y.if_near refl) yes_noted.0 yes_noted.1 (n.if_near refl) no_noted.0 no_noted.1
  branch_writes false true y n skip yes_noted no_noted = near_far skip (y.if_near refl) yes_noted.0 yes_noted.1 (n.if_far refl) no_noted.0 no_noted.1
  branch_writes true false y n skip yes_noted no_noted = far_near skip (y.if_far refl) yes_noted.0 yes_noted.1 (n.if_near refl) no_noted.0 no_noted.1
  branch_writes true true y n skip yes_noted no_noted = far_far skip (y.if_far refl) yes_noted.0 yes_noted.1 (n.if_far refl) no_noted.0 no_noted.1
