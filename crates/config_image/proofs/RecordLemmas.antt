-- What the records of groups and members hold.
use Rattle.std.proofs.Common.{◌≡◌, ◌∙◌, ◌∷◌, ◌+◌, ◌++◌, ◌-◌, ◌*◌, ◌<◌, List, Some, [], ap, arith, length, length-append, suc, sym, take, zero, ℕ}
use Rattle.std.specs.List.{slice_get}
use Rattle.bpf_verify.specs.Program.{ProgramValue}
use Rattle.ipv4_fields.specs.Endpoint.{endpoint_number}
use Rattle.member_group.specs.declared.TheConstants.{GROUP_WORDS, MEMBER_WORDS}
use Rattle.member_group.specs.declared.member.Member.{Member}
use Rattle.member_group.specs.Charge.{members_of}
use Rattle.config_image.specs.Image.{Group, all_member_records, filter_words, group_program_words, group_records, lock_word, member_records, program_words, reference, words_of}
use Rattle.config_image.proofs.LengthLemmas.{length-member_records, members_of-cons}
use Rattle.config_image.proofs.WordLemmas.{slice_get-append_left, slice_get-append_right}

-- the four words of a group, and of a member
abbrev pub group_record : ℕ → ℕ → Group → List ℕ
group_record members programs group = endpoint_number group.key ∷ members ∷ length group.members ∷ reference programs group.selector ∷ []

abbrev pub member_record : ℕ → Member ProgramValue → List ℕ
member_record filter member = member.id ∷ endpoint_number member.to ∷ reference filter member.filter ∷ lock_word member.locked ∷ []

-- a word of the first part, and of the rest
in_first : (first rest : List ℕ) (i j : ℕ) → i ≡ j → j < length first → slice_get (first ++ rest) i ≡ slice_get first j
in_first first rest i j same inside = ap (slice_get (first ++ rest)) same ∙ slice_get-append_left first rest j inside

in_rest : (first rest : List ℕ) (i j : ℕ) → i ≡ length first + j → slice_get (first ++ rest) i ≡ slice_get rest j
in_rest first rest i j same = slice_get-append_right first rest i (omega arith) ∙ ap (slice_get rest) (let left : i - length first ≡ j = omega arith in left)

pub group_records-at : (config : List Group) (members programs index : ℕ) (group : Group) (field m p : ℕ) → slice_get config index ≡ Some group → field < GROUP_WORDS
    → m ≡ members + MEMBER_WORDS * members_of (take index config) → p ≡ programs + length (program_words (take index config))
    → slice_get (group_records members programs config) (GROUP_WORDS * index + field) ≡ slice_get (group_record m p group) field
group_records-at [] members programs index group field m p there inside at_m at_p = absurd cc
group_records-at (first ∷ rest) members programs zero group field m p there inside at_m at_p =
    let same : first ≡ group = cc in
    let m_is : m ≡ members = omega arith in
    let p_is : p ≡ programs = omega arith in
    in_first (group_record members programs first) (group_records (members + MEMBER_WORDS * length first.members) (programs + length (group_program_words first)) rest) (GROUP_WORDS * 0 + field) field (omega arith) inside
    ∙ ap (λ (g : Group). slice_get (group_record members programs g) field) same
    ∙ ap (λ (n : ℕ). slice_get (group_record n programs group) field) (sym m_is)
    ∙ ap (λ (n : ℕ). slice_get (group_record m n group) field) (sym p_is)
group_records-at (first ∷ rest) members programs (suc index) group field m p there inside at_m at_p =
    let counted = members_of-cons first (take index rest) in
    let words = length-append (group_program_words first) (program_words (take index rest)) in
    in_rest (group_record members programs first) (group_records (members + MEMBER_WORDS * length first.members) (programs + length (group_program_words first)) rest) (GROUP_WORDS * suc index + field) (GROUP_WORDS * index + field) (omega arith)
    ∙ group_records-at rest (members + MEMBER_WORDS * length first.members) (programs + length (group_program_words first)) index group field m p there inside (omega arith) (omega arith)

pub member_records-at : (members : List (Member ProgramValue)) (filters index : ℕ) (member : Member ProgramValue) (field p : ℕ) → slice_get members index ≡ Some member → field < MEMBER_WORDS
    → p ≡ filters + length (filter_words (take index members))
    → slice_get (member_records filters members) (MEMBER_WORDS * index + field) ≡ slice_get (member_record p member) field
member_records-at [] filters index member field p there inside at_p = absurd cc
member_records-at (first ∷ rest) filters zero member field p there inside at_p =
    let same : first ≡ member = cc in
    let p_is : p ≡ filters = omega arith in
    in_first (member_record filters first) (member_records (filters + length (words_of first.filter)) rest) (MEMBER_WORDS * 0 + field) field (omega arith) inside
    ∙ ap (λ (m : Member ProgramValue). slice_get (member_record filters m) field) same
    ∙ ap (λ (n : ℕ). slice_get (member_record n member) field) (sym p_is)
member_records-at (first ∷ rest) filters (suc index) member field p there inside at_p =
    let words = length-append (words_of first.filter) (filter_words (take index rest)) in
    in_rest (member_record filters first) (member_records (filters + length (words_of first.filter)) rest) (MEMBER_WORDS * suc index + field) (MEMBER_WORDS * index + field) (omega arith)
    ∙ member_records-at rest (filters + length (words_of first.filter)) index member field p there inside (omega arith)

pub all_member_records-at : (config : List Group) (programs index : ℕ) (group : Group) (i p : ℕ) → slice_get config index ≡ Some group → i < MEMBER_WORDS * length group.members
    → p ≡ programs + length (program_words (take index config)) + length (words_of group.selector)
    → slice_get (all_member_records programs config) (MEMBER_WORDS * members_of (take index config) + i) ≡ slice_get (member_records p group.members) i
all_member_records-at [] programs index group i p there inside at_p = absurd cc
all_member_records-at (first ∷ rest) programs zero group i p there inside at_p =
    let same : first ≡ group = cc in
    let at_first : p ≡ programs + length (words_of first.selector) = rw same (omega arith) in
    let fits : i < MEMBER_WORDS * length first.members = rw same inside in
    let size = length-member_records (programs + length (words_of first.selector)) first.members in
    in_first (member_records (programs + length (words_of first.selector)) first.members) (all_member_records (programs + length (group_program_words first)) rest) (MEMBER_WORDS * 0 + i) i (omega arith) (omega arith)
    ∙ ap (λ (g : Group). slice_get (member_records (programs + length (words_of first.selector)) g.members) i) same
    ∙ ap (λ (n : ℕ). slice_get (member_records n group.members) i) (sym at_first)
all_member_records-at (first ∷ rest) programs (suc index) group i p there inside at_p =
    let counted = members_of-cons first (take index rest) in
    let words = length-append (group_program_words first) (program_words (take index rest)) in
    let size = length-member_records (programs + length (words_of first.selector)) first.members in
    in_rest (member_records (programs + length (words_of first.selector)) first.members) (all_member_records (programs + length (group_program_words first)) rest) (MEMBER_WORDS * members_of (first ∷ take index rest) + i) (MEMBER_WORDS * members_of (take index rest) + i) (omega arith)
    ∙ all_member_records-at rest (programs + length (group_program_words first)) index group i p there inside (omega arith)
