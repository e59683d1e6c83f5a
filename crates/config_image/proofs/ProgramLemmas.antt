-- The programs of a configuration, as lists of words, beside the words of an image.
use Rattle.std.proofs.Common.{◌≡◌, ◌∙◌, ◌∷◌, ◌+◌, ◌++◌, ◌*◌, ◌≤◌, IfSome, List, None, Option, Some, [], ap, arith, length, length-append, map, refl, sym, ℕ}
use Rattle.std.specs.List.{All, cons_option, filter_map, flat_map}
use Rattle.std.specs.Option.{option_to_list}
use Rattle.std.proofs.lemmas.List.{map-append}
use Rattle.std.proofs.lemmas.List.Concat.{flat_map-cons}
use Rattle.std.proofs.lemmas.List.Elements.{All-head, All-tail}
use Rattle.std.proofs.lemmas.List.Folds.{flat_map-map}
use Rattle.bpf_verify.specs.declared.TheConstants.{MAX_INSTRUCTIONS}
use Rattle.bpf_verify.specs.Program.{IsProgram, ProgramValue}
use Rattle.member_group.specs.declared.TheConstants.{GROUP_LIMIT, GROUP_WORDS, HEAD_WORDS, MEMBER_LIMIT, MEMBER_WORDS}
use Rattle.member_group.specs.declared.member.Member.{Member}
use Rattle.member_group.specs.Charge.{programs_of, programs_of_group}
use Rattle.member_group.specs.Group.{IsConfig, IsGroup, IsMember}
use Rattle.config_image.specs.Image.{Group, filter_words, group_program_words, image, program_words, programs_begin, words_of}
use Rattle.config_image.specs.Pooled.{parts, parts_of}
use Rattle.config_image.specs.Walk.{words_of_programs}
use Rattle.config_image.proofs.LengthLemmas.{length_image, members_limited}
use Rattle.config_image.proofs.EntryLemmas.{no_more_parts_than_words, size_of-append, size_of-cons}
use Rattle.config_image.proofs.PartsLemmas.{size_of}

abbrev words_of_program : ProgramValue → List ℕ
words_of_program program = program.words

abbrev words_of_all : List ProgramValue → List (List ℕ)
words_of_all programs = map words_of_program programs

-- ---- the parts of a configuration are those of its programs' words

pub parts-by_words : (config : List Group) → parts config ≡ flat_map parts_of (words_of_programs config)
parts-by_words config = sym (flat_map-map parts_of words_of_program (programs_of config))

-- ---- as many words as an image has

option_words : (program : Option ProgramValue) → size_of (words_of_all (option_to_list program)) ≡ length (words_of program)
option_words None = refl
option_words (Some program) = size_of-cons program.words [] ∙ omega arith

cons_words : (program : Option ProgramValue) (rest : List ProgramValue) → size_of (words_of_all (cons_option program rest)) ≡ length (words_of program) + size_of (words_of_all rest)
cons_words None rest = omega arith
cons_words (Some program) rest = size_of-cons program.words (words_of_all rest)

filters_words : (members : List (Member ProgramValue)) → size_of (words_of_all (filter_map (λ member. member.filter) members)) ≡ length (filter_words members)
filters_words [] = refl
filters_words (member ∷ rest) =
    let more = filters_words rest in
    let first = cons_words member.filter (filter_map (λ (m : Member ProgramValue). m.filter) rest) in
    let both = length-append (words_of member.filter) (filter_words rest) in omega arith

group_words : (group : Group) → size_of (words_of_all (programs_of_group group)) ≡ length (group_program_words group)
group_words group =
    let selector = option_words group.selector in
    let filters = filters_words group.members in
    let both = length-append (words_of group.selector) (filter_words group.members) in
    ap size_of (map-append words_of_program (option_to_list group.selector) (filter_map (λ (member : Member ProgramValue). member.filter) group.members))
    ∙ size_of-append (words_of_all (option_to_list group.selector)) (words_of_all (filter_map (λ (member : Member ProgramValue). member.filter) group.members))
    ∙ omega arith

pub words_of_programs-more : (group : Group) (rest : List Group) → words_of_programs (group ∷ rest) ≡ words_of_all (programs_of_group group) ++ words_of_programs rest
words_of_programs-more group rest = ap words_of_all (flat_map-cons programs_of_group group rest) ∙ map-append words_of_program (programs_of_group group) (programs_of rest)

pub words_of_image : (config : List Group) → size_of (words_of_programs config) ≡ length (program_words config)
words_of_image [] = refl
words_of_image (group ∷ rest) =
    let first = group_words group in
    let more = words_of_image rest in
    let both = length-append (group_program_words group) (program_words rest) in
    ap size_of (words_of_programs-more group rest) ∙ size_of-append (words_of_all (programs_of_group group)) (words_of_programs rest) ∙ omega arith

pub length-by_words : (config : List Group) → length (image config) ≡ programs_begin config + size_of (words_of_programs config)
length-by_words config = let size = length_image config in let words = words_of_image config in omega arith

-- the entries of all parts have room where the programs' words are
pub entries_fit : (config : List Group) → programs_begin config + length (parts config) ≤ length (image config)
entries_fit config =
    let size = length-by_words config in
    let few = no_more_parts_than_words (words_of_programs config) in
    let same = ap (λ (all : List (List ℕ)). length all) (parts-by_words config) in omega arith

-- ---- not more words than so many groups can have

program_limited : (program : Option ProgramValue) → IfSome program IsProgram → length (words_of program) ≤ MAX_INSTRUCTIONS
program_limited None fits = omega arith
program_limited (Some program) fits = let covers = fits.covers in let limited = fits.limited in omega arith

filters_limited : (members : List (Member ProgramValue)) → All IsMember members → length (filter_words members) ≤ length members * MAX_INSTRUCTIONS
filters_limited [] fits = omega arith
filters_limited (member ∷ rest) fits =
    let first = program_limited member.filter (All-head IsMember member rest fits).filter in
    let more = filters_limited rest (All-tail IsMember member rest fits) in
    let both = length-append (words_of member.filter) (filter_words rest) in omega arith

group_limited : (group : Group) → IsGroup group → length (group_program_words group) ≤ (1 + MEMBER_LIMIT) * MAX_INSTRUCTIONS
group_limited group fits =
    let selector = program_limited group.selector fits.selector in
    let filters = filters_limited group.members fits.members in
    let few = fits.limited in
    let both = length-append (words_of group.selector) (filter_words group.members) in omega arith

groups_limited : (config : List Group) → All IsGroup config → length (program_words config) ≤ length config * ((1 + MEMBER_LIMIT) * MAX_INSTRUCTIONS)
groups_limited [] fits = omega arith
groups_limited (group ∷ rest) fits =
    let first = group_limited group (All-head IsGroup group rest fits) in
    let more = groups_limited rest (All-tail IsGroup group rest fits) in
    let both = length-append (group_program_words group) (program_words rest) in omega arith

pub words_limited : (config : List Group) → IsConfig config → size_of (words_of_programs config) ≤ GROUP_LIMIT * ((1 + MEMBER_LIMIT) * MAX_INSTRUCTIONS)
words_limited config fits =
    let words = words_of_image config in
    let all = groups_limited config fits.groups in
    let few = fits.limited in omega arith

pub image_limited : (config : List Group) → IsConfig config
    → length (image config) ≤ HEAD_WORDS + GROUP_WORDS * GROUP_LIMIT + MEMBER_WORDS * (GROUP_LIMIT * MEMBER_LIMIT) + GROUP_LIMIT * ((1 + MEMBER_LIMIT) * MAX_INSTRUCTIONS)
image_limited config fits =
    let size = length-by_words config in
    let words = words_limited config fits in
    let members = members_limited config fits in
    let few = fits.limited in omega arith
