-- Where a part stands in words that are made of parts.
use Rattle.std.proofs.Common.{◌≡◌, ◌∙◌, ◌∷◌, ◌+◌, ◌++◌, List, Some, [], ap, append_assoc, arith, length, length-append, refl, suc, sym, take, zero, ℕ}
use Rattle.std.specs.List.{slice_get}
use Rattle.std.proofs.Math.Seq.{drop-append_seam, take-append_seam}
use Rattle.bpf_verify.specs.Program.{ProgramValue}
use Rattle.member_group.specs.declared.member.Member.{Member}
use Rattle.config_image.specs.Image.{Group, filter_words, group_program_words, image, program_words, programs_begin, words_of}
use Rattle.config_image.specs.declared.lookup.ProgramPlace.{ProgramPlace}
use Rattle.config_image.specs.Lookup.{StandsAt}
use Rattle.config_image.proofs.ImageLemmas.{before_programs, image-before_programs, length-before_programs}

-- the words have this part from a place on
pub record IsPart (words : List ℕ) (place : ℕ) (part : List ℕ) : Type 0 where
  pub before : List ℕ
  pub after : List ℕ
  pub is : words ≡ before ++ (part ++ after)
  pub at : length before ≡ place

pub part_first : (part rest : List ℕ) → IsPart (part ++ rest) 0 part
part_first part rest = record { before = []; after = rest; is = refl; at = refl }

pub part_of_first : (first rest : List ℕ) (place : ℕ) (part : List ℕ) → IsPart first place part → IsPart (first ++ rest) place part
part_of_first first rest place part h = record {
  before = h.before;
  after = h.after ++ rest;
  is = ap (λ (ws : List ℕ). ws ++ rest) h.is ∙ append_assoc h.before (part ++ h.after) rest ∙ ap (λ (ws : List ℕ). h.before ++ ws) (append_assoc part h.after rest);
  at = h.at;
}

pub part_of_rest : (first rest : List ℕ) (place whole : ℕ) (part : List ℕ) → length first + place ≡ whole → IsPart rest place part → IsPart (first ++ rest) whole part
part_of_rest first rest place whole part sum h = record {
  before = first ++ h.before;
  after = h.after;
  is = ap (λ (ws : List ℕ). first ++ ws) h.is ∙ sym (append_assoc first h.before (part ++ h.after));
  at = let size = length-append first h.before in let at = h.at in omega arith;
}

pub part_stands : (words : List ℕ) (place : ProgramPlace) (part : List ℕ) → IsPart words place.from part → place.len ≡ length part → StandsAt words part place
part_stands words place part h counted =
    let at = h.at in
    let all : length words ≡ length h.before + (length part + length h.after) = ap length h.is ∙ length-append h.before (part ++ h.after) ∙ ap (λ (n : ℕ). length h.before + n) (length-append part h.after) in
    record {
      inside = omega arith;
      stands = rw (h.is, ← h.at, counted) (ap (take (length part)) (drop-append_seam h.before (part ++ h.after)) ∙ take-append_seam part h.after);
    }

-- ---- programs

pub filter_part : (members : List (Member ProgramValue)) (index : ℕ) (member : Member ProgramValue) → slice_get members index ≡ Some member
    → IsPart (filter_words members) (length (filter_words (take index members))) (words_of member.filter)
filter_part [] index member there = absurd cc
filter_part (first ∷ rest) zero member there =
    let same : first ≡ member = cc in
    rw (← same) (part_first (words_of first.filter) (filter_words rest))
filter_part (first ∷ rest) (suc index) member there =
    part_of_rest (words_of first.filter) (filter_words rest) _ _ _ (sym (length-append (words_of first.filter) (filter_words (take index rest)))) (filter_part rest index member there)

pub group_part : (config : List Group) (index : ℕ) (group : Group) (place : ℕ) (part : List ℕ) → slice_get config index ≡ Some group → IsPart (group_program_words group) place part
    → IsPart (program_words config) (length (program_words (take index config)) + place) part
group_part [] index group place part there h = absurd cc
group_part (first ∷ rest) zero group place part there h =
    let same : first ≡ group = cc in
    let none : 0 + place ≡ place = omega arith in
    rw none (part_of_first (group_program_words first) (program_words rest) place part (rw same h))
group_part (first ∷ rest) (suc index) group place part there h =
    let sum = length-append (group_program_words first) (program_words (take index rest)) in
    part_of_rest (group_program_words first) (program_words rest) _ _ part (omega arith) (group_part rest index group place part there h)

pub image_part : (config : List Group) (place : ℕ) (part : List ℕ) → IsPart (program_words config) place part → IsPart (image config) (programs_begin config + place) part
image_part config place part h =
    rw (image-before_programs config) (part_of_rest (before_programs config) (program_words config) place _ part (let size = length-before_programs config in omega arith) h)
