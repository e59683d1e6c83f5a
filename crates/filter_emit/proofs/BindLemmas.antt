-- What code keeps when a label is bound, and when words are appended.
use Rattle.std.proofs.Common.{◌≡◌, ◌+◌, ◌++◌, ◌∷◌, ◌<◌, ◌≤◌, List, Some, [], ap, arith, length, length-append, refl, subst, suc, sym, zero, ℕ, ⊎_elim}
use Rattle.std.specs.Prelude.{Contains, slice_get}
use Rattle.std.proofs.lemmas.Bool.{cases_lt}
use Rattle.std.proofs.lemmas.Option.{slice_get_within}
use Rattle.bpf_insn.specs.declared.instruction.Insn.{Insn}
use Rattle.bpf_verify.specs.Path.{IsAt}
use Rattle.filter_emit.specs.declared.fixup.Fixup.{Fixup}
use Rattle.filter_emit.specs.declared.fixup.Side.{Side}
use Rattle.filter_emit.specs.declared.fixup.Side.TheVariants.{Always, WhenFalse, WhenTrue}
use Rattle.filter_emit.specs.Fixups.{AreOpen, CanReach, HasJump, IsAppended, IsBound, IsFixup, IsLonger, shape_of}
use Rattle.filter_emit.specs.Pieces.{AreInstructions, HasFarJumpsOnly, IsFarFrom, IsJump}
use Rattle.filter_emit.proofs.ShapeLemmas.{has_as, jump_as, same_insn}

pub at_within : (code : List ℕ) (pc : ℕ) (insn : Insn) → IsAt code pc insn → pc < length code
at_within code pc insn at = slice_get_within code pc at.0 at.1

-- a jump that can lead to a place can lead to each before it
pub reach_less : (place : ℕ) (side : Side) (to by : ℕ) → to ≤ by → CanReach place side by → CanReach place side to
reach_less place WhenTrue to by low h = omega arith
reach_less place WhenFalse to by low h = omega arith
reach_less place Always to by low h = tt

pub reach_near : (place : ℕ) (side : Side) (to : ℕ) → to ≤ place + 256 → CanReach place side to
reach_near place WhenTrue to low = low
reach_near place WhenFalse to low = low
reach_near place Always to low = tt

-- ---- one word more

front_get : (before : List ℕ) (word pc w : ℕ) → slice_get before pc ≡ Some w → slice_get (before ++ word ∷ []) pc ≡ Some w
front_get [] word pc w e = absurd cc
front_get (first ∷ before) word zero w e = e
front_get (first ∷ before) word (suc pc) w e = front_get before word pc w e

at_end : (before : List ℕ) (word : ℕ) → slice_get (before ++ word ∷ []) (length before) ≡ Some word
at_end [] word = refl
at_end (w ∷ before) word = at_end before word

pub appended_longer : (insn : Insn) (before after : List ℕ) → IsAppended insn before after → IsLonger before after
appended_longer insn before after does pc old at = subst (λ l. IsAt l pc old) (sym does.2) (at.0, front_get before does.0 pc at.0 at.1, at.2)

pub appended_at : (insn : Insn) (before after : List ℕ) → IsAppended insn before after → IsAt after (length before) insn
appended_at insn before after does = subst (λ l. IsAt l (length before) insn) (sym does.2) (does.0, at_end before does.0, does.1)

pub appended_long : (insn : Insn) (before after : List ℕ) → IsAppended insn before after → length after ≡ length before + 1
appended_long insn before after does = omega (arith, ap length does.2, length-append before (does.0 ∷ []))

pub longer_both : (c0 c1 c2 : List ℕ) → IsLonger c0 c1 → IsLonger c1 c2 → IsLonger c0 c2
longer_both c0 c1 c2 one two pc insn at = two pc insn (one pc insn at)

-- ---- what a binding keeps

module _ (fixups : List Fixup) (code bound : List ℕ) (binds : IsBound fixups code bound) where
  -- the instruction at a place has the same shape
  pub bound_at : (pc : ℕ) (insn : Insn) → IsAt code pc insn → (later : Insn) × IsAt bound pc later × (shape_of later ≡ shape_of insn)
  bound_at pc insn at = let s = binds.stands pc (omega arith) (at_within code pc insn at) insn at in (s.0, s.1, s.2)

  -- an instruction that has no fixup is kept
  pub kept_at : (pc : ℕ) (insn : Insn) → ((side : Side) → ¬ IsFixup fixups pc side) → IsAt code pc insn → IsAt bound pc insn
  kept_at pc insn none at =
      let s = binds.stands pc (omega arith) (at_within code pc insn at) insn at in
      subst (IsAt bound pc) (same_insn s.0 insn s.2 (λ side. ⊎_elim (λ waits. absurd (none side waits)) (λ same. same) (s.3 side))) s.1

  -- words in front of the fixups are kept
  pub longer_bound : (front : List ℕ) → ((fixup : Fixup) → Contains fixups fixup → length front ≤ fixup.place) → IsLonger front code → IsLonger front bound
  longer_bound front behind grows pc insn at =
      let low = at_within front pc insn at in kept_at pc insn (λ side waits. let up = behind _ waits in absurd (omega arith)) (grows pc insn at)

  pub jump_bound : (place : ℕ) (side : Side) → HasJump code place side → HasJump bound place side
  jump_bound place side h = let s = bound_at place h.0 h.2 in let j = has_as side h.1 h.0 s.0 s.2 h.3 in (s.0, j.0, s.1, j.1)

  pub open_bound : (others : List Fixup) (by : ℕ) → AreOpen others by code → AreOpen others by bound
  open_bound others by h fixup is = let o = h fixup is in (jump_bound fixup.place fixup.side o.0, o.1)

  pub far_bound : (last from until : ℕ) → HasFarJumpsOnly last from until code → HasFarJumpsOnly last from until bound
  far_bound last from until h pc low high =
      let i = h pc low high in let s = bound_at pc i.0 i.1 in (s.0, s.1, λ is. i.2 (jump_as i.0 s.0 s.2 is))

-- ---- what words that are written behind keep

pub open_longer : (code longer : List ℕ) → IsLonger code longer → (fixups : List Fixup) (by : ℕ) → AreOpen fixups by code → AreOpen fixups by longer
open_longer code longer grows fixups by h fixup is = let o = h fixup is in let j = o.0 in ((j.0, j.1, grows fixup.place j.0 j.2, j.3), o.1)

pub each_longer : (so : ℕ → Insn → Type 0) (code longer : List ℕ) → IsLonger code longer → (from until : ℕ) → AreInstructions so from until code → AreInstructions so from until longer
each_longer so code longer grows from until h pc low high = let i = h pc low high in (i.0, grows pc i.0 i.1, i.2)

-- of a part and another behind it
pub each_both : (so : ℕ → Insn → Type 0) (from mid until : ℕ) (code longer : List ℕ) → IsLonger code longer → AreInstructions so from mid code → AreInstructions so mid until longer → AreInstructions so from until longer
each_both so from mid until code longer grows one two pc low high =
    ⊎_elim (λ before. each_longer so code longer grows from mid one pc low before) (λ behind. two pc behind high) (cases_lt pc mid)

far_sooner : (last from mid pc : ℕ) → from ≤ mid → IsFarFrom last mid pc → IsFarFrom last from pc
far_sooner last from mid pc forward h = record { place = h.place; inside = (let i = h.inside in omega arith); before = h.before; beside = h.beside; far = h.far }

pub far_both : (last from mid until : ℕ) (code longer : List ℕ) → from ≤ mid → IsLonger code longer → HasFarJumpsOnly last from mid code → HasFarJumpsOnly last mid until longer → HasFarJumpsOnly last from until longer
far_both last from mid until code longer forward grows one two = each_both (λ pc insn. IsJump insn → IsFarFrom last from pc) from mid until code longer grows one
    (λ pc low high. let i = two pc low high in (i.0, i.1, λ is. far_sooner last from mid pc forward (i.2 is)))
