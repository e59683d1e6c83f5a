-- In which part of an image a word stands.
use Rattle.std.proofs.Common.{◌≡◌, ◌∙◌, ◌∷◌, ◌+◌, ◌++◌, ◌-◌, ◌*◌, ◌<◌, ◌≤◌, List, Some, [], ap, append_assoc, arith, length, length-append, refl, sym, ℕ}
use Rattle.std.specs.List.{slice_get}
use Rattle.member_group.specs.declared.TheConstants.{GROUP_WORDS, HEAD_WORDS, MEMBER_WORDS}
use Rattle.member_group.specs.Charge.{members_of}
use Rattle.config_image.specs.Image.{Group, all_member_records, group_records, image, members_begin, program_words, programs_begin}
use Rattle.std.proofs.lemmas.List.{append-nil, nil_from_length}
use Rattle.config_image.proofs.LengthLemmas.{length-all_member_records, length-group_records, length_image}
use Rattle.config_image.proofs.WordLemmas.{slice_get-append_left, slice_get-append_right}

module _ (config : List Group) where
  abbrev head : List ℕ
  head = (programs_begin config + length (program_words config)) ∷ length config ∷ []

  abbrev groups : List ℕ
  groups = group_records (members_begin config) (programs_begin config) config

  abbrev members : List ℕ
  members = all_member_records (programs_begin config) config

  abbrev programs : List ℕ
  programs = program_words config

  image-parts : image config ≡ head ++ (groups ++ members ++ programs)
  unfolding image
  image-parts = refl

  pub length_word : slice_get (image config) 0 ≡ Some (length (image config))
  length_word = ap (λ (ws : List ℕ). slice_get ws 0) image-parts ∙ ap (λ (n : ℕ). Some n) (sym (length_image config))

  pub count_word : slice_get (image config) 1 ≡ Some (length config)
  count_word = ap (λ (ws : List ℕ). slice_get ws 1) image-parts

  behind_head : (i : ℕ) → HEAD_WORDS ≤ i → slice_get (image config) i ≡ slice_get (groups ++ members ++ programs) (i - HEAD_WORDS)
  behind_head i behind = ap (λ (ws : List ℕ). slice_get ws i) image-parts ∙ slice_get-append_right head (groups ++ members ++ programs) i behind

  size_groups : length groups ≡ GROUP_WORDS * length config
  size_groups = length-group_records (members_begin config) (programs_begin config) config

  size_records : length (groups ++ members) ≡ GROUP_WORDS * length config + MEMBER_WORDS * members_of config
  size_records = length-append groups members ∙ (let g = size_groups in let m = length-all_member_records (programs_begin config) config in omega arith)

  pub word_in_groups : (i : ℕ) → HEAD_WORDS ≤ i → i < members_begin config → slice_get (image config) i ≡ slice_get groups (i - HEAD_WORDS)
  word_in_groups i behind before =
      let g = size_groups in let both = length-append groups members in
      behind_head i behind ∙ slice_get-append_left (groups ++ members) programs (i - HEAD_WORDS) (omega arith) ∙ slice_get-append_left groups members (i - HEAD_WORDS) (omega arith)

  pub word_in_members : (i : ℕ) → members_begin config ≤ i → i < programs_begin config → slice_get (image config) i ≡ slice_get members (i - members_begin config)
  word_in_members i behind before =
      let g = size_groups in let both = size_records in
      let place : i - HEAD_WORDS - length groups ≡ i - members_begin config = omega arith in
      behind_head i (omega arith) ∙ slice_get-append_left (groups ++ members) programs (i - HEAD_WORDS) (omega arith)
      ∙ slice_get-append_right groups members (i - HEAD_WORDS) (omega arith) ∙ ap (slice_get members) place

  pub word_in_programs : (i : ℕ) → programs_begin config ≤ i → slice_get (image config) i ≡ slice_get programs (i - programs_begin config)
  word_in_programs i behind =
      let both = size_records in
      let place : i - HEAD_WORDS - length (groups ++ members) ≡ i - programs_begin config = omega arith in
      behind_head i (omega arith) ∙ slice_get-append_right (groups ++ members) programs (i - HEAD_WORDS) (omega arith) ∙ ap (slice_get programs) place

  abbrev pub before_programs : List ℕ
  before_programs = head ++ (groups ++ members)

  pub image-before_programs : image config ≡ before_programs ++ programs
  image-before_programs = image-parts ∙ sym (append_assoc head (groups ++ members) programs)

  pub length-before_programs : length before_programs ≡ programs_begin config
  length-before_programs = let both = size_records in let all = length-append head (groups ++ members) in omega arith

-- ---- no image begins another

nothing_behind : (first rest : List ℕ) → length (first ++ rest) ≡ length first → first ++ rest ≡ first
nothing_behind first rest same =
    let sum = length-append first rest in
    let none : rest ≡ [] = nil_from_length rest (omega arith) in
    ap (λ (ws : List ℕ). first ++ ws) none ∙ append-nil first

pub image_begins_none : (config other : List Group) (rest : List ℕ) → image other ≡ image config ++ rest → image other ≡ image config
image_begins_none config other rest begins =
    let own : slice_get (image config ++ rest) 0 ≡ Some (length (image config)) =
    slice_get-append_left (image config) rest 0 (let size = length_image config in omega arith) ∙ length_word config in
    let others : slice_get (image config ++ rest) 0 ≡ Some (length (image other)) = ap (λ (ws : List ℕ). slice_get ws 0) (sym begins) ∙ length_word other in
    let same : length (image other) ≡ length (image config) = cc in
    begins ∙ nothing_behind (image config) rest (ap length (sym begins) ∙ same)
