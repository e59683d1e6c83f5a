-- The part of a configuration that a reply shows.
use Rattle.std.specs.Prelude.{◌≡◌, ◌≤◌, ◌∷◌, List, None, Option, Some, [], codes, decimal, drop, length, option_and_then, slice_get, take, ℕ}
use Rattle.ipv4_fields.specs.declared.endpoint.Endpoint.{Endpoint}
use Rattle.bpf_verify.specs.Program.{ProgramValue}
use Rattle.config_image.specs.Image.{Group}
use Rattle.member_group.specs.Charge.{charge_of, members_of}
use Rattle.member_group.specs.Group.{group_of, member_of}
use Rattle.member_group.specs.declared.member.Member.{Member}
use Rattle.control_line.specs.Reading.{count_of}
use Rattle.control_line.specs.declared.reply.TheConstants.{WINDOW}
use Rattle.versions.specs.declared.layout.TheConstants.{LAST_NUMBER}
use Rattle.control_rules.specs.Fields.{fields_in}
use Rattle.control_rules.specs.declared.replies.GroupShown.{GroupShown}
use Rattle.control_rules.specs.declared.replies.MemberShown.{MemberShown}
use Rattle.control_rules.specs.declared.replies.Shown.{Shown}
use Rattle.control_rules.specs.declared.replies.WordsShown.{WordsShown}

-- a reply to `show`, by its fields
pub record IsShownReply (reply : List ℕ) (shown : Shown) : Type 0 where
  pub version : shown.version ≤ LAST_NUMBER
  pub groups : shown.groups ≤ 4294967295
  pub members : shown.members ≤ 4294967295
  pub charge : shown.charge ≤ 4294967295
  pub fields : fields_in reply ≡ codes "version" ∷ decimal shown.version ∷ codes "groups" ∷ decimal shown.groups
      ∷ codes "members" ∷ decimal shown.members ∷ codes "charge" ∷ decimal shown.charge ∷ []

pub record IsShownOf (config : List Group) (shown : Shown) : Type 0 where
  pub groups : shown.groups ≡ length config
  pub members : decimal shown.members ≡ decimal (members_of config)
  pub charge : decimal shown.charge ≡ decimal (charge_of config)

abbrev pub words_in : Option ProgramValue → ℕ
words_in program = count_of (λ program. program.words) program

-- the group at a place
pub record IsGroupAt (config : List Group) (index : ℕ) (shown : GroupShown) : Type 0 where
  pub group : Group
  pub at : slice_get config index ≡ Some group
  pub key : shown.key ≡ group.key
  pub members : shown.members ≡ length group.members
  pub selector : shown.selector ≡ words_in group.selector

-- the member at an index of the group at a key
pub record IsMemberAt (config : List Group) (key : Endpoint) (index : ℕ) (shown : MemberShown) : Type 0 where
  pub group : Group
  pub member : Member ProgramValue
  pub found : group_of key config ≡ Some group
  pub at : slice_get group.members index ≡ Some member
  pub id : shown.id ≡ member.id
  pub to : shown.to ≡ member.to
  pub filter : shown.filter ≡ words_in member.filter
  pub locked : shown.locked ≡ member.locked

-- the selector of the group at a key, or the filter of one of its members
abbrev pub program_at : Endpoint → Option ℕ → List Group → Option ProgramValue
program_at key None config = option_and_then (λ group. group.selector) (group_of key config)
program_at key (Some id) config =
    option_and_then (λ group. option_and_then (λ member. member.filter) (member_of id group)) (group_of key config)

-- words of it, from a place on
pub record AreWordsAt (config : List Group) (key : Endpoint) (owner : Option ℕ) (place : ℕ) (shown : WordsShown) : Type 0 where
  pub program : ProgramValue
  pub found : program_at key owner config ≡ Some program
  pub words : shown.words.items ≡ take WINDOW (drop place program.words)
