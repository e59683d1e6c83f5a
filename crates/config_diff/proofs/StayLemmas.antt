-- Members that stay, one after another.
use Rattle.std.proofs.Common.{◌+◌, ◌++◌, ◌-◌, ◌<◌, ◌∙◌, ◌∷◌, ◌≡◌, Bool, List, [], ap, arith, drop, false, get_or, length, length-drop, map, refl, subst, suc, sym, take, true, ℕ}
use Rattle.std.specs.Prelude.{if◌then◌else◌}
use Rattle.std.specs.Borrow.{Bor}
use Rattle.std.proofs.Math.Seq.{drop-cons}
use Rattle.std.proofs.lemmas.List.{take_rest}
use Rattle.bpf_verify.specs.Program.{ProgramValue}
use Rattle.ipv4_fields.specs.declared.endpoint.Endpoint.{Endpoint}
use Rattle.member_group.specs.declared.command.Command.{Command}
use Rattle.member_group.specs.declared.member.Member.{Member}
use Rattle.config_diff.specs.body.Appended.{HasMore, words_member}
use Rattle.config_diff.specs.body.Changes.{can_stay, member_changes, members_changes, replaced_members, same_words}
use Rattle.config_diff.proofs.BodyLemmas.{more_of_both}

abbrev Lent : Type 0
Lent = Command (Bor ProgramValue)

abbrev Members : Type 0
Members = List (Member ProgramValue)

-- the changes of the members from a place on
abbrev pub changes_from : Endpoint → Members → Members → ℕ → List (Command (List ℕ))
changes_from key from to at = members_changes same_words key (map words_member (drop at from)) (map words_member (drop at to))

-- a list that gets the changes from a place on has got all changes
abbrev pub GetsTheRest : List Lent → List Lent → Endpoint → Members → Members → ℕ → Type 0
GetsTheRest old new key from to at = (last : List Lent) → HasMore new last (changes_from key from to at) → HasMore old last (changes_from key from to 0)

-- the members from a place on, as a slice has them
abbrev slice_from : Members → ℕ → Members
slice_from members at = take (length members - at) (drop at members)

slices : (key : Endpoint) (from to : Members) (at : ℕ) → replaced_members key (map words_member (slice_from from at)) (map words_member (slice_from to at)) ≡ replaced_members key (map words_member (drop at from)) (map words_member (drop at to))
slices key from to at =
    ap (λ members. replaced_members key (map words_member members) (map words_member (slice_from to at))) (take_rest from at)
    ∙ ap (λ members. replaced_members key (map words_member (drop at from)) (map words_member members)) (take_rest to at)

from_place : (members : Members) (at : ℕ) (member : Member ProgramValue) → at < length members → member ≡ get_or members at member → map words_member (drop at members) ≡ words_member member ∷ map words_member (drop (at + 1) members)
from_place members at member inside is =
    let next : suc at ≡ at + 1 = omega arith in
    ap (map words_member) (drop-cons members at member inside)
    ∙ ap (λ n. words_member (get_or members at member) ∷ map words_member (drop n members)) next
    ∙ ap (λ it. words_member it ∷ map words_member (drop (at + 1) members)) (sym is)

module _ (key : Endpoint) (from to : Members) (at : ℕ) (one other : Member ProgramValue) (inside : at < length from) (is : one ≡ get_or from at one) (inside_to : at < length to) (is_to : other ≡ get_or to at other) where
  abbrev here : Bool → List (Command (List ℕ))
  here stays =
      if stays
      then member_changes same_words key (words_member one) (words_member other) ++ changes_from key from to (at + 1)
      else replaced_members key (words_member one ∷ map words_member (drop (at + 1) from)) (words_member other ∷ map words_member (drop (at + 1) to))

  by_place : changes_from key from to at ≡ here (can_stay same_words (words_member one) (words_member other))
  by_place =
      ap (λ members. members_changes same_words key members (map words_member (drop at to))) (from_place from at one inside is)
      ∙ ap (members_changes same_words key (words_member one ∷ map words_member (drop (at + 1) from))) (from_place to at other inside_to is_to)

  -- the member at the place stays
  pub rest_after_one : (old new next : List Lent) → (answer : Bool) → answer ≡ can_stay same_words (words_member one) (words_member other) → answer ≡ true → GetsTheRest old new key from to at →
      HasMore new next (member_changes same_words key (words_member one) (words_member other)) → GetsTheRest old next key from to (at + 1)
  rest_after_one old new next answer exact stays gets pushed last more =
      gets last (subst (HasMore new last) (sym (by_place ∙ ap here (sym exact ∙ stays))) (more_of_both new next last _ _ pushed more))

  -- it does not stay
  pub replaced_from : (old new last : List Lent) → (answer : Bool) → answer ≡ can_stay same_words (words_member one) (words_member other) → answer ≡ false → GetsTheRest old new key from to at →
      HasMore new last (replaced_members key (map words_member (slice_from from at)) (map words_member (slice_from to at))) → HasMore old last (changes_from key from to 0)
  replaced_from old new last answer exact cannot gets pushed =
      gets last (subst (HasMore new last)
      (slices key from to at
      ∙ ap (λ members. replaced_members key members (map words_member (drop at to))) (from_place from at one inside is)
      ∙ ap (replaced_members key (words_member one ∷ map words_member (drop (at + 1) from))) (from_place to at other inside_to is_to)
      ∙ sym (by_place ∙ ap here (sym exact ∙ cannot)))
      pushed)

-- one of the two lists has ended
pub replaced_at_end : (key : Endpoint) (from to : Members) (at : ℕ) → (at < length from → at < length to → ⊥) → (old new last : List Lent) → GetsTheRest old new key from to at →
    HasMore new last (replaced_members key (map words_member (slice_from from at)) (map words_member (slice_from to at))) → HasMore old last (changes_from key from to 0)
replaced_at_end key from to at ended old new last gets pushed =
    gets last (subst (HasMore new last) (slices key from to at ∙ sym (by_ends (drop at from) (drop at to) both)) pushed)
  where
    both : 0 < length (drop at from) → 0 < length (drop at to) → ⊥
    both left right =
        let size : length (drop at from) ≡ length from - at = length-drop at from in
        let size_to : length (drop at to) ≡ length to - at = length-drop at to in
        ended (omega arith) (omega arith)

    by_ends : (xs ys : Members) → (0 < length xs → 0 < length ys → ⊥) → members_changes same_words key (map words_member xs) (map words_member ys) ≡ replaced_members key (map words_member xs) (map words_member ys)
    by_ends [] ys none = refl
    by_ends (x ∷ xs) [] none = refl
    by_ends (x ∷ xs) (y ∷ ys) none = absurd (none (omega arith) (omega arith))
