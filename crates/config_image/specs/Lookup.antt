-- Lookups in words that begin with the image of a configuration.
use Rattle.std.specs.Prelude.{◌≡◌, ◌++◌, ◌+◌, ◌-◌, ◌*◌, ◌≤◌, List, None, Option, Some, length, replicate, slice_get, take, ℕ}
use Rattle.bpf_verify.specs.Path.{program_at}
use Rattle.bpf_verify.specs.Program.{ProgramValue}
use Rattle.ipv4_fields.specs.declared.endpoint.Endpoint.{Endpoint}
use Rattle.member_group.specs.declared.TheConstants.{MEMBER_WORDS}
use Rattle.member_group.specs.Charge.{charge_of, members_of}
use Rattle.member_group.specs.declared.member.Member.{Member}
use Rattle.member_group.specs.Group.{IsConfig, group_of}
use Rattle.config_image.specs.declared.TheConstants.{ROW_WORDS}
use Rattle.config_image.specs.declared.lookup.FoundGroup.{FoundGroup}
use Rattle.config_image.specs.declared.lookup.MemberEntry.{MemberEntry}
use Rattle.config_image.specs.declared.lookup.ProgramPlace.{ProgramPlace}
use Rattle.config_image.specs.Image.{Group, image, members_begin, program_words, programs_begin, row}

-- the words begin with the image of this configuration
pub record BeginsWithImage (words : List ℕ) (config : List Group) : Type 0 where
  pub is_config : IsConfig config
  pub rest : List ℕ
  pub begins : words ≡ image config ++ rest

-- a configuration has this group at an index, or this member at an index of a group
abbrev pub HasGroup : List Group → ℕ → Group → Type 0
HasGroup config index group = slice_get config index ≡ Some group

pub record HasMember (config : List Group) (group index : ℕ) (member : Member ProgramValue) : Type 0 where
  pub of : Group
  pub group_at : HasGroup config group of
  pub member_at : slice_get of.members index ≡ Some member

-- the place of the first member record of the group at an index, and the place of its programs
abbrev pub members_at : List Group → ℕ → ℕ
members_at config group = members_begin config + MEMBER_WORDS * members_of (take group config)

abbrev pub programs_at : List Group → ℕ → ℕ
programs_at config group = programs_begin config + length (program_words (take group config))

-- the index of the group that a configuration has at a key, and its number of members; none if it has no such group
abbrev pub IsGroupFound : Endpoint → List Group → Option FoundGroup → Type 0
IsGroupFound key config None = group_of key config ≡ None
IsGroupFound key config (Some found) =
    (group : Group) × (group_of key config ≡ Some group) × HasGroup config found.index group × (found.members ≡ length group.members)

-- the member's number, and the destination of its packets
pub record IsMemberFound (member : Member ProgramValue) (found : MemberEntry) : Type 0 where
  pub id : found.id ≡ member.id
  pub to : found.to ≡ member.to

-- the place of a program's words in the words; none if there is no program
pub record StandsAt (words program : List ℕ) (place : ProgramPlace) : Type 0 where
  pub inside : place.from + place.len ≤ length words
  pub stands : program_at words place.from place.len ≡ program

abbrev pub IsProgramFound : List ℕ → Option ProgramValue → Option ProgramPlace → Type 0
IsProgramFound words None found = found ≡ None
IsProgramFound words (Some program) None = ⊥
IsProgramFound words (Some program) (Some place) = StandsAt words program.words place

-- the row of a configuration is its image and then zeros, and begins with its image; the first word has the image's length
pub record RowHolds (config : List Group) : Type 0 where
  pub padded : row config ≡ image config ++ replicate (ROW_WORDS - length (image config)) 0
  pub whole : length (row config) ≡ ROW_WORDS
  pub begins : BeginsWithImage (row config) config
  pub length_word : slice_get (row config) 0 ≡ Some (length (image config))

-- this is true if the charge is not more than a row has words
abbrev pub RowHoldsImage : Type 0
RowHoldsImage = (config : List Group) → IsConfig config → charge_of config ≤ ROW_WORDS → RowHolds config

-- the record of a member begins at a place of words that begin with an image
pub record IsRecordOf (words : List ℕ) (entry : ℕ) (member : Member ProgramValue) : Type 0 where
  pub config : List Group
  pub begins : BeginsWithImage words config
  pub group : ℕ
  pub index : ℕ
  pub has : HasMember config group index member
  pub place : entry ≡ members_at config group + MEMBER_WORDS * index
