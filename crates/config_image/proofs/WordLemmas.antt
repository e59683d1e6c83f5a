-- Where a word of an image stands in its parts.
use Rattle.std.proofs.Common.{◌≡◌, ◌∙◌, ◌∷◌, ◌+◌, ◌++◌, ◌-◌, ◌*◌, ◌<◌, ◌≤◌, List, [], ap, arith, drop, get_or, length, length-append, refl, subst, suc, sym, zero, ℕ}
use Rattle.std.specs.List.{All, slice_get}
use Rattle.std.proofs.lemmas.List.{at_drop_more}
use Rattle.std.proofs.lemmas.List.Elements.{All-get_or}
use Rattle.bpf_verify.specs.Program.{ProgramValue}
use Rattle.member_group.specs.declared.TheConstants.{GROUP_WORDS, MEMBER_WORDS}
use Rattle.member_group.specs.Charge.{members_of}
use Rattle.member_group.specs.declared.member.Member.{Member}
use Rattle.config_image.proofs.LengthLemmas.{length-member_records, members_of-cons}
use Rattle.ipv4_fields.specs.Endpoint.{endpoint_number}
use Rattle.config_image.specs.Image.{Group, all_member_records, filter_words, group_program_words, group_records, lock_word, member_records, program_words, reference, words_of}

pub slice_get-append_left : (xs ys : List ℕ) (i : ℕ) → i < length xs → slice_get (xs ++ ys) i ≡ slice_get xs i
slice_get-append_left [] ys i inside = absurd (omega arith)
slice_get-append_left (x ∷ xs) ys zero inside = refl
slice_get-append_left (x ∷ xs) ys (suc i) inside = slice_get-append_left xs ys i (omega arith)

pub slice_get-append_add : (xs ys : List ℕ) (i : ℕ) → slice_get (xs ++ ys) (length xs + i) ≡ slice_get ys i
slice_get-append_add [] ys i = let same : 0 + i ≡ i = omega arith in ap (slice_get ys) same
slice_get-append_add (x ∷ xs) ys i =
    let next : suc (length xs) + i ≡ suc (length xs + i) = omega arith in ap (slice_get (x ∷ (xs ++ ys))) next ∙ slice_get-append_add xs ys i

pub slice_get-append_right : (xs ys : List ℕ) (i : ℕ) → length xs ≤ i → slice_get (xs ++ ys) i ≡ slice_get ys (i - length xs)
slice_get-append_right xs ys i past =
    let split : i ≡ length xs + (i - length xs) = omega arith in ap (slice_get (xs ++ ys)) split ∙ slice_get-append_add xs ys (i - length xs)

-- ---- words of which the first are those of one item

pub first_word : (words first rest : List ℕ) (i n : ℕ) → words ≡ first ++ rest → n ≡ length first → i < n → slice_get words i ≡ slice_get first i
first_word words first rest i n split counted inside =
    ap (λ (ws : List ℕ). slice_get ws i) split ∙ slice_get-append_left first rest i (omega arith)

pub later_word : (words first rest : List ℕ) (i n : ℕ) → words ≡ first ++ rest → n ≡ length first → n ≤ i → slice_get rest (i - n) ≡ slice_get words i
later_word words first rest i n split counted past =
    rw counted (sym (ap (λ (ws : List ℕ). slice_get ws i) split ∙ slice_get-append_right first rest i (omega arith)))

pub later_inside : (words first rest : List ℕ) (i n : ℕ) → words ≡ first ++ rest → n ≡ length first → n ≤ i → i < length words → i - n < length rest
later_inside words first rest i n split counted past inside =
    let total : length words ≡ length first + length rest = rw split (length-append first rest) in omega arith

-- what a recursion over a list makes of it from the item at i on
pub from_item : {X Y : Type 0} (F : List X → Y) (xs : List X) (i : ℕ) (x : X) → i < length xs → x ≡ get_or xs i x → F (drop i xs) ≡ F (x ∷ drop (i + 1) xs)
from_item F xs i x inside is = at_drop_more F xs i x inside ∙ ap (λ y. F (y ∷ drop (i + 1) xs)) (sym is)

pub item_of_all : {X : Type 0} (P : X → Type 0) (xs : List X) (i : ℕ) (x : X) → i < length xs → x ≡ get_or xs i x → All P xs → P x
item_of_all P xs i x inside is all = subst P (sym is) (All-get_or P xs i x inside all)

abbrev pub group_record : Group → ℕ → ℕ → List ℕ
group_record group members place = endpoint_number group.key ∷ members ∷ length group.members ∷ reference place group.selector ∷ []

abbrev pub member_record : Member ProgramValue → ℕ → List ℕ
member_record member place = member.id ∷ endpoint_number member.to ∷ reference place member.filter ∷ lock_word member.locked ∷ []

module _ (config : List Group) (i : ℕ) (group : Group) (inside : i < length config) (is : group ≡ get_or config i group) where
  abbrev later : List Group
  later = drop (i + 1) config

  pub group_records-split : (members place : ℕ)
      → group_records members place (drop i config) ≡ group_record group members place ++ group_records (members + MEMBER_WORDS * length group.members) (place + length (group_program_words group)) later
  group_records-split members place = from_item (group_records members place) config i group inside is

  pub group_records_more : (members place left n : ℕ) → GROUP_WORDS ≤ left → n ≡ length (group_program_words group)
      → slice_get (group_records (members + MEMBER_WORDS * length group.members) (place + n) later) (left - GROUP_WORDS) ≡ slice_get (group_records members place (drop i config)) left
  group_records_more members place left n past counted =
      let rest = group_records (members + MEMBER_WORDS * length group.members) (place + length (group_program_words group)) later in
      rw counted (later_word (group_records members place (drop i config)) (group_record group members place) rest left GROUP_WORDS (group_records-split members place) refl past)

  pub all_member_records-split : (place : ℕ) → all_member_records place (drop i config) ≡ member_records (place + length (words_of group.selector)) group.members ++ all_member_records (place + length (group_program_words group)) later
  all_member_records-split place = from_item (all_member_records place) config i group inside is

  pub members_of-split : members_of (drop i config) ≡ length group.members + members_of later
  members_of-split = from_item members_of config i group inside is ∙ members_of-cons group later

  -- a word of the group's member records, and the words behind them
  pub member_word_here : (place left n m : ℕ) → n ≡ length group.members → m ≡ length (words_of group.selector) → left < MEMBER_WORDS * n
      → slice_get (all_member_records place (drop i config)) left ≡ slice_get (member_records (place + m) group.members) left
  member_word_here place left n m counted selector inside =
      let size = length-member_records (place + length (words_of group.selector)) group.members in
      rw selector (first_word _ _ _ left (MEMBER_WORDS * n) (all_member_records-split place) (omega arith) inside)

  pub member_word_later : (place left n m : ℕ) → n ≡ length group.members → m ≡ length (group_program_words group) → MEMBER_WORDS * n ≤ left
      → slice_get (all_member_records (place + m) later) (left - MEMBER_WORDS * n) ≡ slice_get (all_member_records place (drop i config)) left
  member_word_later place left n m counted programs past =
      let size = length-member_records (place + length (words_of group.selector)) group.members in
      let first = member_records (place + length (words_of group.selector)) group.members in
      let rest = all_member_records (place + length (group_program_words group)) later in
      rw programs (later_word (all_member_records place (drop i config)) first rest left (MEMBER_WORDS * n) (all_member_records-split place) (omega arith) past)

  pub program_words-split : program_words (drop i config) ≡ group_program_words group ++ program_words later
  program_words-split = from_item program_words config i group inside is

  pub programs_len-split : length (program_words (drop i config)) ≡ length (group_program_words group) + length (program_words later)
  programs_len-split = ap length program_words-split ∙ length-append (group_program_words group) (program_words later)

module _ (members : List (Member ProgramValue)) (i : ℕ) (member : Member ProgramValue) (inside : i < length members) (is : member ≡ get_or members i member) where
  pub member_records-split : (place : ℕ) → member_records place (drop i members) ≡ member_record member place ++ member_records (place + length (words_of member.filter)) (drop (i + 1) members)
  member_records-split place = from_item (member_records place) members i member inside is

  pub word_of_member : (place left : ℕ) → left < MEMBER_WORDS → slice_get (member_records place (drop i members)) left ≡ slice_get (member_record member place) left
  word_of_member place left here =
      let rest = member_records (place + length (words_of member.filter)) (drop (i + 1) members) in
      first_word (member_records place (drop i members)) (member_record member place) rest left MEMBER_WORDS (member_records-split place) refl here

  pub member_records_more : (place left n : ℕ) → MEMBER_WORDS ≤ left → n ≡ length (words_of member.filter)
      → slice_get (member_records (place + n) (drop (i + 1) members)) (left - MEMBER_WORDS) ≡ slice_get (member_records place (drop i members)) left
  member_records_more place left n past counted =
      let rest = member_records (place + length (words_of member.filter)) (drop (i + 1) members) in
      rw counted (later_word (member_records place (drop i members)) (member_record member place) rest left MEMBER_WORDS (member_records-split place) refl past)

  pub filter_words-split : filter_words (drop i members) ≡ words_of member.filter ++ filter_words (drop (i + 1) members)
  filter_words-split = from_item filter_words members i member inside is

  pub filters_len-split : length (filter_words (drop i members)) ≡ length (words_of member.filter) + length (filter_words (drop (i + 1) members))
  filters_len-split = ap length filter_words-split ∙ length-append (words_of member.filter) (filter_words (drop (i + 1) members))
