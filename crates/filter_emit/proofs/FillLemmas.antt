-- Fixups that are filled one by one.
use Rattle.std.proofs.Common.{◌≡◌, ◌≢◌, ◌∙◌, ◌+◌, ◌-◌, ◌<◌, ◌⊎◌, List, Ok, Some, ap, arith, inl, inr, length, refl, subst, sym, ℕ, ⊎_elim}
use Rattle.std.specs.Prelude.{Contains, slice_get, slice_index_or, slice_set}
use Rattle.std.proofs.lemmas.Bool.{cases_eq}
use Rattle.std.proofs.lemmas.List.{get_or-set_other, get_or-set_same, length-set}
use Rattle.std.proofs.lemmas.Option.{get_or_from_slice_get, slice_get-get_or, slice_get_within}
use Rattle.bpf_insn.specs.declared.instruction.Insn.{Insn}
use Rattle.bpf_insn.specs.declared.instruction.Insn.TheVariants.{Jump, JumpIf}
use Rattle.bpf_insn.specs.Word.{instruction_of}
use Rattle.bpf_verify.specs.Path.{IsAt}
use Rattle.bpf_verify.proofs.PlaceLemmas.{IsAt-unique}
use Rattle.filter_emit.specs.declared.fixup.Fixup.{Fixup}
use Rattle.filter_emit.specs.declared.fixup.Side.{Side}
use Rattle.filter_emit.specs.declared.fixup.Side.TheVariants.{Always, WhenFalse, WhenTrue}
use Rattle.filter_emit.specs.Fixups.{HasJump, IsBound, IsFixup, LeadsTo, Stands, offset_of, shape_of}
use Rattle.filter_emit.specs.body.Filling.{IsFilledIn, with_offset}
use Rattle.filter_emit.proofs.ShapeLemmas.{has_as}

shape_kept : (side : Side) (k : ℕ) (insn : Insn) → shape_of (with_offset side k insn) ≡ shape_of insn
shape_kept WhenTrue k (JumpIf test operand skips) = refl
shape_kept WhenFalse k (JumpIf test operand skips) = refl
shape_kept Always k (Jump old) = refl
shape_kept _ k insn = refl

set_offset : (side : Side) (k old : ℕ) (insn : Insn) → offset_of side insn ≡ Some old → offset_of side (with_offset side k insn) ≡ Some k
set_offset WhenTrue k old (JumpIf test operand skips) h = refl
set_offset WhenFalse k old (JumpIf test operand skips) h = refl
set_offset Always k old (Jump before) h = refl
set_offset _ k old insn h = absurd cc

same_or_kept : (side other : Side) (k : ℕ) (insn : Insn) → (other ≡ side) ⊎ (offset_of other (with_offset side k insn) ≡ offset_of other insn)
same_or_kept WhenTrue WhenTrue k insn = inl refl
same_or_kept WhenFalse WhenFalse k insn = inl refl
same_or_kept Always Always k insn = inl refl
same_or_kept _ _ k (JumpIf test operand skips) = inr refl
same_or_kept _ _ k (Jump n) = inr refl
same_or_kept _ _ k insn = inr refl

at_same : (words : List ℕ) (pc word : ℕ) (insn : Insn) → pc < length words → instruction_of word ≡ Ok insn → IsAt (slice_set words pc word) pc insn
at_same words pc word insn low read = (word, slice_get-get_or (slice_set words pc word) pc 0 (omega (arith, length-set words pc word)) ∙ ap (λ w. Some w) (get_or-set_same words pc word 0 low), read)

at_other : (words : List ℕ) (place pc word : ℕ) (insn : Insn) → pc ≢ place → IsAt words pc insn → IsAt (slice_set words place word) pc insn
at_other words place pc word insn apart at =
    let low = slice_get_within words pc at.0 at.1 in (
      at.0,
      slice_get-get_or (slice_set words place word) pc 0 (omega (arith, length-set words place word))
          ∙ ap (λ w. Some w) (get_or-set_other words place pc word 0 apart ∙ get_or_from_slice_get words pc at.0 0 at.1),
      at.2,
    )

-- some of the fixups are filled with a place
pub record IsFilling (fixups : List Fixup) (count to : ℕ) (code words : List ℕ) : Type 0 where
  pub same_length : length words ≡ length code
  pub stands : Stands (λ place side. IsFixup fixups place side) 0 (length code) code words
  pub filled : (j : ℕ) (fixup : Fixup) → j < count → slice_get fixups j ≡ Some fixup → LeadsTo words fixup.place fixup.side to

pub IsFilling-none : (fixups : List Fixup) (to : ℕ) (code : List ℕ) → IsFilling fixups 0 to code code
IsFilling-none fixups to code = record {
  same_length = refl;
  stands = λ pc low high insn at. (insn, at, refl, λ side. inr refl);
  filled = λ j fixup low is. absurd (omega arith);
}

module _ (fixups : List Fixup) (count to : ℕ) (code words after : List ℕ) (fixup : Fixup) (h : IsFilling fixups count to code words) (next : slice_get fixups count ≡ Some fixup) (is : Contains fixups fixup)
    (within : fixup.place < length words) (behind : fixup.place < to) (does : IsFilledIn fixup to words after) (jump : HasJump words fixup.place fixup.side) where
  abbrev skip : ℕ
  skip = to - fixup.place - 1

  abbrev new : List ℕ
  new = slice_set words fixup.place does.1

  here : IsAt new fixup.place (with_offset fixup.side skip does.0)
  here = at_same words fixup.place does.1 (with_offset fixup.side skip does.0) within does.3

  jumps : offset_of fixup.side does.0 ≡ Some jump.1
  jumps = ap (offset_of fixup.side) (IsAt-unique words fixup.place does.0 jump.0 does.2 jump.2) ∙ jump.3

  leads_here : LeadsTo new fixup.place fixup.side to
  leads_here = (with_offset fixup.side skip does.0, skip, here, set_offset fixup.side skip jump.1 does.0 jumps, omega arith)

  still_leads : (place : ℕ) (side : Side) → LeadsTo words place side to → LeadsTo new place side to
  still_leads place side t = ⊎_elim
      (λ e. ⊎_elim
      (λ same. subst (λ p. LeadsTo new p side to) (sym e) (subst (λ s. LeadsTo new fixup.place s to) (sym same) leads_here))
      (λ kept. let one = IsAt-unique words place t.0 does.0 t.2 (subst (λ p. IsAt words p does.0) (sym e) does.2) in
      (with_offset fixup.side skip does.0, t.1, subst (λ p. IsAt new p (with_offset fixup.side skip does.0)) (sym e) here, kept ∙ (ap (offset_of side) (sym one) ∙ t.3), t.4))
      (same_or_kept fixup.side side skip does.0))
      (λ ne. (t.0, t.1, at_other words fixup.place place does.1 t.0 ne t.2, t.3, t.4)) (cases_eq place fixup.place)

  still_stands : Stands (λ place side. IsFixup fixups place side) 0 (length code) code new
  still_stands pc low high first at =
      let s = h.stands pc low high first at in
      ⊎_elim
      (λ e. let one = IsAt-unique words pc s.0 does.0 s.1 (subst (λ p. IsAt words p does.0) (sym e) does.2) in (
        with_offset fixup.side skip does.0,
        subst (λ p. IsAt new p (with_offset fixup.side skip does.0)) (sym e) here,
        shape_kept fixup.side skip does.0 ∙ (ap shape_of (sym one) ∙ s.2),
        λ side. ⊎_elim (λ same. inl (subst (λ p. IsFixup fixups p side) (sym e) (subst (λ s'. IsFixup fixups fixup.place s') (sym same) is)))
            (λ kept. ⊎_elim inl (λ was. inr (kept ∙ (ap (offset_of side) (sym one) ∙ was))) (s.3 side)) (same_or_kept fixup.side side skip does.0),
      ))
      (λ ne. (s.0, at_other words fixup.place pc does.1 s.0 ne s.1, s.2, s.3)) (cases_eq pc fixup.place)

  all_filled : (j : ℕ) (other : Fixup) → j < count + 1 → slice_get fixups j ≡ Some other → LeadsTo new other.place other.side to
  all_filled j other low there = ⊎_elim
      (λ e. let f : Some other ≡ Some fixup = sym there ∙ (ap (slice_get fixups) e ∙ next) in let g : other ≡ fixup = cc in subst (λ o. LeadsTo new o.place o.side to) (sym g) leads_here)
      (λ ne. still_leads other.place other.side (h.filled j other (omega arith) there)) (cases_eq j count)

  pub IsFilling-one : IsFilling fixups (count + 1) to code after
  IsFilling-one = subst (IsFilling fixups (count + 1) to code) (sym does.4)
      (record { same_length = length-set words fixup.place does.1 ∙ h.same_length; stands = still_stands; filled = all_filled })

pub item_is : (fixups : List Fixup) (i : ℕ) (d : Fixup) → i < length fixups → Contains fixups (slice_index_or fixups i d) × (slice_get fixups i ≡ Some (slice_index_or fixups i d))
item_is fixups i d low = let e = slice_get-get_or fixups i d low in ((i, low, get_or_from_slice_get fixups i (slice_index_or fixups i d) (slice_index_or fixups i d) e), e)

pub has_later : (fixups : List Fixup) (count to : ℕ) (code words : List ℕ) → IsFilling fixups count to code words → (place : ℕ) (side : Side) → place < length code → HasJump code place side → HasJump words place side
has_later fixups count to code words h place side low t =
    let s = h.stands place (omega arith) low t.0 t.2 in let j = has_as side t.1 t.0 s.0 s.2 t.3 in (s.0, j.0, s.1, j.1)

pub IsBound-filling : (fixups : List Fixup) (code words : List ℕ) (count : ℕ) → count ≡ length fixups → IsFilling fixups count (length code) code words → IsBound fixups code words
IsBound-filling fixups code words count is h = record {
  same_length = h.same_length;
  stands = h.stands;
  filled = λ fixup there. let e = slice_get-get_or fixups there.0 fixup there.1 ∙ ap (λ o. Some o) there.2 in h.filled there.0 fixup (let low = there.1 in omega arith) e;
}
