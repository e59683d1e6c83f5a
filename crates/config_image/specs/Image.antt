-- The words in which the table keeps a configuration (docs/SWITCH.md, "Image").
use Rattle.std.specs.Prelude.{◌≡◌, ◌*◌, ◌+◌, ◌++◌, ◌∷◌, Bool, List, None, Option, Some, [], false, length, replicate, take, true, ℕ}
use Rattle.bpf_verify.specs.Program.{ProgramValue}
use Rattle.ipv4_fields.specs.Endpoint.{endpoint_number}
use Rattle.member_group.specs.declared.TheConstants.{GROUP_WORDS, HEAD_WORDS, MEMBER_WORDS}
use Rattle.member_group.specs.declared.member.Member.{Member}
use Rattle.member_group.specs.Charge.{members_of}
use Rattle.member_group.specs.Group.{GroupOf}
use Rattle.config_image.specs.declared.TheConstants.{ROW_WORDS}

abbrev pub Group : Type 0
Group = GroupOf ProgramValue

-- the words of a program, none if there is no program
abbrev pub words_of : Option ProgramValue → List ℕ
words_of None = []
words_of (Some program) = program.words

-- the reference of a program at a place of the image: the place, and after it 16 bits of length; 0 for none
abbrev pub reference : ℕ → Option ProgramValue → ℕ
reference place None = 0
reference place (Some program) = place * 65536 + length program.words

-- a group's programs, one after the other: its selector, then the filters in index order
abbrev pub filter_words : List (Member ProgramValue) → List ℕ
filter_words [] = []
filter_words (member ∷ rest) = words_of member.filter ++ filter_words rest

abbrev pub group_program_words : Group → List ℕ
group_program_words group = words_of group.selector ++ filter_words group.members

abbrev pub program_words : List Group → List ℕ
program_words [] = []
program_words (group ∷ rest) = group_program_words group ++ program_words rest

-- four words a group: its key, the place of its first member record, its number of members, its selector's reference;
-- member records and programs of the first group begin at these places
abbrev pub group_records : ℕ → ℕ → List Group → List ℕ
group_records members place [] = []
group_records members place (group ∷ rest) =
    endpoint_number group.key ∷ members ∷ length group.members ∷ reference place group.selector
    ∷ group_records (members + MEMBER_WORDS * length group.members) (place + length (group_program_words group)) rest

-- 1 if a member is locked, else 0
abbrev pub lock_word : Bool → ℕ
lock_word true = 1
lock_word false = 0

-- four words a member: its number, the destination of its packets, its filter's reference, its lock; the first filter begins at
-- this place
abbrev pub member_records : ℕ → List (Member ProgramValue) → List ℕ
member_records place [] = []
member_records place (member ∷ rest) =
    member.id ∷ endpoint_number member.to ∷ reference place member.filter ∷ lock_word member.locked
    ∷ member_records (place + length (words_of member.filter)) rest

-- the member records of one group after those of the other; the programs of the first group begin at this place
abbrev pub all_member_records : ℕ → List Group → List ℕ
all_member_records place [] = []
all_member_records place (group ∷ rest) =
    member_records (place + length (words_of group.selector)) group.members
    ++ all_member_records (place + length (group_program_words group)) rest

-- the place of the first member record, and the place of the programs
abbrev pub members_begin : List Group → ℕ
members_begin config = HEAD_WORDS + GROUP_WORDS * length config

abbrev pub programs_begin : List Group → ℕ
programs_begin config = members_begin config + MEMBER_WORDS * members_of config

-- the image's length, the number of groups, the groups' records, the members' records, the programs
unfoldable pub image : List Group → List ℕ
image config =
    (programs_begin config + length (program_words config)) ∷ length config
    ∷ (group_records (members_begin config) (programs_begin config) config
    ++ all_member_records (programs_begin config) config
    ++ program_words config)

-- the image, and then zeros
unfoldable pub row : List Group → List ℕ
row config = take ROW_WORDS (image config ++ replicate ROW_WORDS 0)

-- words that begin with one image are no longer image: among images, that is among lists of words, none begins another. Two
-- configurations may have one image, since an image does not contain what programs are charged.
abbrev pub NoImageBeginsAnother : Type 0
NoImageBeginsAnother = (config other : List Group) (rest : List ℕ) → image other ≡ image config ++ rest → image other ≡ image config
