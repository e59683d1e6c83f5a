-- The words of an image at the places where the look-ups read them.
use Rattle.std.proofs.Common.{◌≡◌, ◌∙◌, ◌+◌, ◌-◌, ◌*◌, ◌^◌, ◌<◌, ◌≤◌, IfSome, IsNone, List, None, Option, Some, ap, arith, length, refl, subst, sym, take, ℕ}
use Rattle.std.specs.List.{All, slice_get}
use Rattle.std.proofs.lemmas.List.Elements.{All-get_or}
use Rattle.ipv4_fields.specs.declared.endpoint.Endpoint.{Endpoint}
use Rattle.member_group.specs.Group.{IsGroup, IsMember}
use Rattle.config_image.specs.declared.lookup.ProgramPlace.{ProgramPlace}
use Rattle.std.proofs.lemmas.Option.{get_or_from_slice_get, slice_get_within}
use Rattle.bpf_verify.specs.Program.{IsProgram, ProgramValue}
use Rattle.ipv4_fields.specs.Endpoint.{IsEndpoint, endpoint_number}
use Rattle.member_group.specs.declared.TheConstants.{GROUP_WORDS, HEAD_WORDS, MEMBER_WORDS}
use Rattle.member_group.specs.declared.member.Member.{Member}
use Rattle.member_group.specs.Charge.{members_of}
use Rattle.config_image.specs.Image.{Group, all_member_records, filter_words, group_program_words, group_records, image, members_begin, program_words, programs_begin, reference, words_of}
use Rattle.config_image.specs.Lookup.{BeginsWithImage, HasGroup, HasMember, IsMemberFound, IsProgramFound, IsRecordOf, members_at, programs_at}
use Rattle.config_image.proofs.ImageLemmas.{count_word, word_in_groups, word_in_members}
use Rattle.config_image.proofs.LengthLemmas.{members_limited, members_of_take}
use Rattle.config_image.proofs.PartLemmas.{IsPart, filter_part, group_part, image_part, part_first, part_of_first, part_of_rest, part_stands}
use Rattle.config_image.proofs.RecordLemmas.{all_member_records-at, group_record, group_records-at, member_record, member_records-at}
use Rattle.config_image.proofs.WordLemmas.{slice_get-append_left}

-- where the filter of a member of this group stands
abbrev pub filter_at : List Group → ℕ → Group → ℕ → ℕ
filter_at config index group member = programs_at config index + length (words_of group.selector) + length (filter_words (take member group.members))

module _ (words : List ℕ) (config : List Group) (begins : BeginsWithImage words config) where
  -- a word of the image is that word of the words
  pub word_of_image : (i x : ℕ) → slice_get (image config) i ≡ Some x → slice_get words i ≡ Some x
  word_of_image i x there = ap (λ (ws : List ℕ). slice_get ws i) begins.begins ∙ slice_get-append_left (image config) begins.rest i (slice_get_within (image config) i x there) ∙ there

  part_of_image : (place : ℕ) (part : List ℕ) → IsPart (program_words config) place part → IsPart words (programs_begin config + place) part
  part_of_image place part h =
      subst (λ (ws : List ℕ). IsPart ws (programs_begin config + place) part) (sym begins.begins)
      (part_of_first (image config) begins.rest (programs_begin config + place) part (image_part config place part h))

  module _ (index : ℕ) (group : Group) (has : HasGroup config index group) where
    index_inside : index < length config
    index_inside = slice_get_within config index group has

    pub group_index_fits : index < 64
    group_index_fits = let inside = index_inside in let few = begins.is_config.limited in omega arith

    pub group_word_is : (field x : ℕ) → field < GROUP_WORDS → slice_get (group_record (members_at config index) (programs_at config index) group) field ≡ Some x
        → slice_get words (HEAD_WORDS + GROUP_WORDS * index + field) ≡ Some x
    group_word_is field x inside is =
        let below = index_inside in
        let place : HEAD_WORDS + GROUP_WORDS * index + field - HEAD_WORDS ≡ GROUP_WORDS * index + field = omega arith in
        word_of_image (HEAD_WORDS + GROUP_WORDS * index + field) x
        (word_in_groups config (HEAD_WORDS + GROUP_WORDS * index + field) (omega arith) (omega arith)
        ∙ ap (slice_get (group_records (members_begin config) (programs_begin config) config)) place
        ∙ group_records-at config (members_begin config) (programs_begin config) index group field _ _ has inside refl refl ∙ is)

    pub members_word_is : slice_get words (HEAD_WORDS + GROUP_WORDS * index + 1) ≡ Some (members_at config index)
    members_word_is = group_word_is 1 (members_at config index) (omega arith) refl

    pub selector_part : IsPart words (programs_at config index) (words_of group.selector)
    selector_part =
        let place : length (program_words (take index config)) + 0 ≡ length (program_words (take index config)) = omega arith in
        part_of_image (length (program_words (take index config))) (words_of group.selector)
        (subst (λ (n : ℕ). IsPart (program_words config) n (words_of group.selector)) place
        (group_part config index group 0 (words_of group.selector) has (part_first (words_of group.selector) (filter_words group.members))))

    module _ (member_index : ℕ) (member : Member ProgramValue) (is_member : slice_get group.members member_index ≡ Some member) where
      pub member_word_is : (field x : ℕ) → field < MEMBER_WORDS → slice_get (member_record (filter_at config index group member_index) member) field ≡ Some x
          → slice_get words (members_at config index + MEMBER_WORDS * member_index + field) ≡ Some x
      member_word_is field x inside is =
          let below : member_index < length group.members = slice_get_within group.members member_index member is_member in
          let most = members_of_take config index group has in
          let place : members_at config index + MEMBER_WORDS * member_index + field - members_begin config ≡ MEMBER_WORDS * members_of (take index config) + (MEMBER_WORDS * member_index + field) = omega arith in
          word_of_image (members_at config index + MEMBER_WORDS * member_index + field) x
          (word_in_members config (members_at config index + MEMBER_WORDS * member_index + field) (omega arith) (omega arith)
          ∙ ap (slice_get (all_member_records (programs_begin config) config)) place
          ∙ all_member_records-at config (programs_begin config) index group (MEMBER_WORDS * member_index + field) _ has (omega arith) refl
          ∙ member_records-at group.members _ member_index member field _ is_member inside refl ∙ is)

      pub filter_stands : IsPart words (filter_at config index group member_index) (words_of member.filter)
      filter_stands =
          let before = length (program_words (take index config)) in
          let selector = length (words_of group.selector) in
          let filters = length (filter_words (take member_index group.members)) in
          let in_group : IsPart (group_program_words group) (selector + filters) (words_of member.filter) =
          part_of_rest (words_of group.selector) (filter_words group.members) filters (selector + filters) (words_of member.filter) refl (filter_part group.members member_index member is_member) in
          let place : programs_begin config + (before + (selector + filters)) ≡ filter_at config index group member_index = omega arith in
          subst (λ (n : ℕ). IsPart words n (words_of member.filter)) place
          (part_of_image (before + (selector + filters)) (words_of member.filter) (group_part config index group (selector + filters) (words_of member.filter) has in_group))

-- ---- members, with what names them

pub item_at : {X : Type 0} (P : X → Type 0) (xs : List X) (i : ℕ) (x : X) → slice_get xs i ≡ Some x → All P xs → P x
item_at P xs i x there all = subst P (get_or_from_slice_get xs i x x there) (All-get_or P xs i x (slice_get_within xs i x there) all)

same_endpoint : (a b : Endpoint) → IsEndpoint a → IsEndpoint b → endpoint_number a ≡ endpoint_number b → a ≡ b
same_endpoint a b a_fits b_fits same =
    let a_port = a_fits.port in
    let b_port = b_fits.port in
    let address : a.address ≡ b.address = omega arith in
    let port : a.port ≡ b.port = omega arith in
    ap (λ (n : ℕ). let e : Endpoint = record { address = n; port = a.port } in e) address ∙ ap (λ (n : ℕ). let e : Endpoint = record { address = b.address; port = n } in e) port

module _ (words : List ℕ) (config : List Group) (begins : BeginsWithImage words config) (group index : ℕ) (member : Member ProgramValue) (has : HasMember config group index member) where
  -- where the record of the member begins
  abbrev entry : ℕ
  entry = members_at config group + MEMBER_WORDS * index

  pub entry_fits : entry + MEMBER_WORDS ≤ 2 ^ 16
  entry_fits =
      let below : index < length has.of.members = slice_get_within has.of.members index member has.member_at in
      let most = members_of_take config group has.of has.group_at in
      let all = members_limited config begins.is_config in
      let few = begins.is_config.limited in omega arith

  pub id_word : slice_get words entry ≡ Some member.id
  id_word = subst (λ (n : ℕ). slice_get words n ≡ Some member.id) (let same : entry + 0 ≡ entry = omega arith in same)
      (member_word_is words config begins group has.of has.group_at index member has.member_at 0 member.id (omega arith) refl)

  pub to_word : slice_get words (entry + 1) ≡ Some (endpoint_number member.to)
  to_word = member_word_is words config begins group has.of has.group_at index member has.member_at 1 _ (omega arith) refl

  pub filter_word : slice_get words (entry + 2) ≡ Some (reference (filter_at config group has.of index) member.filter)
  filter_word = member_word_is words config begins group has.of has.group_at index member has.member_at 2 _ (omega arith) refl

  pub is_member : IsMember member
  is_member = item_at IsMember has.of.members index member has.member_at (item_at IsGroup config group has.of has.group_at begins.is_config.groups).members

  pub to_fits : endpoint_number member.to < 2 ^ 48
  to_fits = let address = is_member.to.address in let port = is_member.to.port in omega arith

  pub found_member : (id : ℕ) (to : Endpoint) → slice_get words entry ≡ Some id → slice_get words (entry + 1) ≡ Some (endpoint_number to) → IsEndpoint to → IsMemberFound member (record { id = id; to = to })
  found_member id to id_read to_read fits =
      let id_is = id_word in
      let to_is = to_word in
      let number : endpoint_number to ≡ endpoint_number member.to = cc in
      record { id = cc; to = same_endpoint to member.to fits is_member.to number }

-- what a reference names
pub found_program : (words : List ℕ) (at word : ℕ) (program : Option ProgramValue) (place : Option ProgramPlace)
    → IsPart words at (words_of program) → IfSome program IsProgram → word ≡ reference at program
    → (word ≡ 0 → place ≡ None) → IfSome place (λ found. (word ≡ found.from * 65536 + found.len) × (found.len < 65536)) → (IsNone place → word ≡ 0)
    → IsProgramFound words program place
found_program words at word None place part fits is none some found = none is
found_program words at word (Some program) None part fits is none some found =
    let zero_word = found refl in
    let accepted = fits.accepted.not_empty in absurd (omega arith)
found_program words at word (Some program) (Some place) part fits is none some found =
    let short = fits.accepted.not_too_long in
    let read = some.0 in
    let small = some.1 in
    let from : at ≡ place.from = omega arith in
    let len : place.len ≡ length program.words = omega arith in
    part_stands words place program.words (subst (λ (n : ℕ). IsPart words n program.words) from part) len

-- ---- groups, by halving

module _ (words : List ℕ) (config : List Group) (begins : BeginsWithImage words config) where
  pub count_is : slice_get words 1 ≡ Some (length config)
  count_is = word_of_image words config begins 1 (length config) (count_word config)

  pub key_is : (index : ℕ) (group : Group) → HasGroup config index group → slice_get words (HEAD_WORDS + GROUP_WORDS * index) ≡ Some (endpoint_number group.key)
  key_is index group has =
      subst (λ (n : ℕ). slice_get words n ≡ Some (endpoint_number group.key)) (let same : HEAD_WORDS + GROUP_WORDS * index + 0 ≡ HEAD_WORDS + GROUP_WORDS * index = omega arith in same)
      (group_word_is words config begins index group has 0 (endpoint_number group.key) (omega arith) refl)

  pub members_count_is : (index : ℕ) (group : Group) → HasGroup config index group → slice_get words (HEAD_WORDS + GROUP_WORDS * index + 2) ≡ Some (length group.members)
  members_count_is index group has = group_word_is words config begins index group has 2 (length group.members) (omega arith) refl

-- ---- records

-- a record of a member is where its place was told, also after a read
pub record_there : (words words' : List ℕ) (config : List Group) (group index : ℕ) (member : Member ProgramValue) (entry : ℕ) → words' ≡ words
    → BeginsWithImage words config → HasMember config group index member → entry ≡ members_at config group + MEMBER_WORDS * index → IsRecordOf words' entry member
record_there words words' config group index member at same begins has place = record {
  config = config;
  begins = subst (λ (ws : List ℕ). BeginsWithImage ws config) (sym same) begins;
  group = group;
  index = index;
  has = has;
  place = place;
}
