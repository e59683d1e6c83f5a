-- How many words the parts of an image have.
use Rattle.std.proofs.Common.{◌≡◌, ◌∙◌, ◌∷◌, ◌+◌, ◌++◌, ◌*◌, ◌≤◌, IfSome, List, None, Option, Some, [], ap, arith, drop, length, length-append, refl, suc, sym, take, zero, ℕ}
use Rattle.std.specs.List.{All, cons_option, filter_map, slice_get, sum_by}
use Rattle.std.specs.Option.{option_to_list}
use Rattle.std.proofs.lemmas.List.{at_drop_all}
use Rattle.std.proofs.lemmas.List.Concat.{flat_map-cons}
use Rattle.std.proofs.lemmas.List.Elements.{All-head, All-tail}
use Rattle.std.proofs.lemmas.List.Sums.{sum_by-append, sum_by-cons}
use Rattle.bpf_verify.specs.Program.{IsProgram, ProgramValue}
use Rattle.member_group.specs.declared.TheConstants.{GROUP_LIMIT, GROUP_WORDS, MEMBER_LIMIT, MEMBER_WORDS}
use Rattle.member_group.specs.declared.member.Member.{Member}
use Rattle.member_group.specs.Charge.{charge_of, members_of, programs_of, programs_of_group}
use Rattle.member_group.specs.Group.{IsConfig, IsGroup, IsMember}
use Rattle.config_image.specs.Image.{Group, all_member_records, filter_words, group_program_words, group_records, image, member_records, members_begin, program_words, programs_begin, words_of}

pub length-group_records : (members place : ℕ) (config : List Group) → length (group_records members place config) ≡ GROUP_WORDS * length config
length-group_records members place [] = refl
length-group_records members place (group ∷ rest) =
    let more = length-group_records (members + MEMBER_WORDS * length group.members) (place + length (group_program_words group)) rest in omega arith

pub length-member_records : (place : ℕ) (members : List (Member ProgramValue)) → length (member_records place members) ≡ MEMBER_WORDS * length members
length-member_records place [] = refl
length-member_records place (member ∷ rest) =
    let more = length-member_records (place + length (words_of member.filter)) rest in omega arith

pub members_of-cons : (group : Group) (rest : List Group) → members_of (group ∷ rest) ≡ length group.members + members_of rest
members_of-cons group rest = sum_by-cons (λ (g : Group). length g.members) group rest

pub length-all_member_records : (place : ℕ) (config : List Group) → length (all_member_records place config) ≡ MEMBER_WORDS * members_of config
length-all_member_records place [] = refl
length-all_member_records place (group ∷ rest) =
    let first = length-member_records (place + length (words_of group.selector)) group.members in
    let more = length-all_member_records (place + length (group_program_words group)) rest in
    let both = length-append (member_records (place + length (words_of group.selector)) group.members) (all_member_records (place + length (group_program_words group)) rest) in
    let sum = members_of-cons group rest in omega arith

pub length_image : (config : List Group) → length (image config) ≡ programs_begin config + length (program_words config)
unfolding image
length_image config =
    let groups = length-group_records (members_begin config) (programs_begin config) config in
    let members = length-all_member_records (programs_begin config) config in
    let records = length-append (group_records (members_begin config) (programs_begin config) config) (all_member_records (programs_begin config) config) in
    let all = length-append (group_records (members_begin config) (programs_begin config) config ++ all_member_records (programs_begin config) config) (program_words config) in
    omega arith

-- ---- a group's programs have as many words as they have in all

abbrev sizes : List ProgramValue → ℕ
sizes programs = sum_by (λ program. length program.words) programs

one_counted : (program : Option ProgramValue) → length (words_of program) ≡ sizes (option_to_list program)
one_counted None = refl
one_counted (Some program) = sym (sum_by-cons (λ (p : ProgramValue). length p.words) program [] ∙ (let g : length program.words + 0 ≡ length program.words = omega arith in g))

first_counted : (filter : Option ProgramValue) (rest : List ProgramValue) → sizes (cons_option filter rest) ≡ length (words_of filter) + sizes rest
first_counted None rest = omega arith
first_counted (Some program) rest = sum_by-cons (λ (p : ProgramValue). length p.words) program rest

filters_counted : (members : List (Member ProgramValue)) → length (filter_words members) ≡ sizes (filter_map (λ member. member.filter) members)
filters_counted [] = refl
filters_counted (member ∷ rest) =
    length-append (words_of member.filter) (filter_words rest) ∙ (ap (λ (n : ℕ). length (words_of member.filter) + n) (filters_counted rest)
    ∙ sym (first_counted member.filter (filter_map (λ member. member.filter) rest)))

pub group_counted : (group : Group) → length (group_program_words group) ≡ sum_by (λ program. length program.words) (programs_of_group group)
group_counted group =
    let selector = one_counted group.selector in
    let filters = filters_counted group.members in
    let words = length-append (words_of group.selector) (filter_words group.members) in
    let sum = sum_by-append (λ (program : ProgramValue). length program.words) (option_to_list group.selector) (filter_map (λ (member : Member ProgramValue). member.filter) group.members) in
    omega arith

-- ---- no more words than are charged

abbrev charges : List ProgramValue → ℕ
charges programs = sum_by (λ program. program.charge) programs

selector_covered : (program : Option ProgramValue) → IfSome program IsProgram → length (words_of program) ≤ charges (option_to_list program)
selector_covered None fits = omega arith
selector_covered (Some program) fits = let covers = fits.covers in omega arith

filter_covered : (filter : Option ProgramValue) (rest : List (Member ProgramValue)) → IfSome filter IsProgram → length (filter_words rest) ≤ charges (filter_map (λ member. member.filter) rest)
    → length (words_of filter ++ filter_words rest) ≤ charges (cons_option filter (filter_map (λ member. member.filter) rest))
filter_covered None rest fits more = more
filter_covered (Some program) rest fits more =
    let covers = fits.covers in
    let words = length-append program.words (filter_words rest) in
    let sum = sum_by-cons (λ (p : ProgramValue). p.charge) program (filter_map (λ (member : Member ProgramValue). member.filter) rest) in
    omega arith

filters_covered : (members : List (Member ProgramValue)) → All IsMember members → length (filter_words members) ≤ charges (filter_map (λ member. member.filter) members)
filters_covered [] fits = omega arith
filters_covered (member ∷ rest) fits = filter_covered member.filter rest (All-head IsMember member rest fits).filter (filters_covered rest (All-tail IsMember member rest fits))

-- all programs of a group, and of all groups
group_covered : (group : Group) → IsGroup group → length (group_program_words group) ≤ charges (programs_of_group group)
group_covered group fits =
    let selector = selector_covered group.selector fits.selector in
    let filters = filters_covered group.members fits.members in
    let words = length-append (words_of group.selector) (filter_words group.members) in
    let sum = sum_by-append (λ (program : ProgramValue). program.charge) (option_to_list group.selector) (filter_map (λ (member : Member ProgramValue). member.filter) group.members) in
    omega arith

groups_covered : (config : List Group) → All IsGroup config → length (program_words config) ≤ charges (programs_of config)
groups_covered [] fits = omega arith
groups_covered (group ∷ rest) fits =
    let first = group_covered group (All-head IsGroup group rest fits) in
    let more = groups_covered rest (All-tail IsGroup group rest fits) in
    let words = length-append (group_program_words group) (program_words rest) in
    let programs = ap charges (flat_map-cons programs_of_group group rest) in
    let sum = sum_by-append (λ (program : ProgramValue). program.charge) (programs_of_group group) (programs_of rest) in
    omega arith

pub within_charge : (config : List Group) → IsConfig config → length (image config) ≤ charge_of config
within_charge config fits =
    let words = groups_covered config fits.groups in
    let size = length_image config in omega arith

-- ---- where all groups were counted

pub counted_all : (config : List Group) (i len : ℕ) → length config ≤ i
    → len + (MEMBER_WORDS * members_of (drop i config) + length (program_words (drop i config))) ≡ programs_begin config + length (program_words config)
    → len ≡ length (image config)
counted_all config i len all counted =
    let members : members_of (drop i config) ≡ 0 = at_drop_all members_of config i all in
    let programs : length (program_words (drop i config)) ≡ 0 = at_drop_all (λ (rest : List Group). length (program_words rest)) config i all in
    let size = length_image config in omega arith

-- the members of the groups before an index and of the group there are not more than all
pub members_of_take : (config : List Group) (index : ℕ) (group : Group) → slice_get config index ≡ Some group → members_of (take index config) + length group.members ≤ members_of config
members_of_take [] index group there = absurd cc
members_of_take (first ∷ rest) zero group there =
    let same : first ≡ group = cc in
    let size : length first.members ≡ length group.members = ap (λ (g : Group). length g.members) same in
    let counted = members_of-cons first rest in omega arith
members_of_take (first ∷ rest) (suc index) group there =
    let more = members_of_take rest index group there in
    let before = members_of-cons first (take index rest) in
    let all = members_of-cons first rest in omega arith

groups_limited : (config : List Group) → All IsGroup config → members_of config ≤ length config * MEMBER_LIMIT
groups_limited [] all = omega arith
groups_limited (group ∷ rest) all =
    let few = (All-head IsGroup group rest all).limited in
    let more = groups_limited rest (All-tail IsGroup group rest all) in
    let sum = members_of-cons group rest in omega arith

pub members_limited : (config : List Group) → IsConfig config → members_of config ≤ GROUP_LIMIT * MEMBER_LIMIT
members_limited config is_config =
    let sum = groups_limited config is_config.groups in
    let few = is_config.limited in omega arith
