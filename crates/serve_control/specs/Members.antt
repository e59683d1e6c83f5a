-- Requests for the counters of a group or of a member, and their replies (docs/COMMANDS.md, "serve").
use Rattle.std.specs.Prelude.{◌≡◌, ◌<◌, ◌^◌, ◌++◌, ◌∷◌, IfSome, List, None, Option, Some, [], codes, decimal, false, true, ℕ}
use Rattle.config_image.specs.Image.{Group}
use Rattle.control_line.specs.Reason.{refusal_text}
use Rattle.control_line.specs.declared.reason.Reason.TheVariants.{Command}
use Rattle.ipv4_fields.specs.Endpoint.{IsEndpoint, endpoint_text}
use Rattle.member_counts.specs.Counts.{group_text, member_text}
use Rattle.member_counts.specs.Key.{has}
use Rattle.member_counts.specs.Table.{Table, group_counts, member_counts, settled}
use Rattle.member_counts.specs.declared.counts.GroupCounts.{GroupCounts}
use Rattle.member_counts.specs.declared.counts.MemberCounts.{MemberCounts}
use Rattle.member_counts.specs.declared.key.CountKey.{CountKey}
use Rattle.member_group.specs.declared.refusal.Refusal.TheVariants.{NoGroup, NoMember}
use Rattle.read_section.specs.Operator.{IsCurrent, OperatorValue}

-- the names in a request: a group's key, or a group's key and a member's number after a space
abbrev pub id_text : Option ℕ → List ℕ
id_text None = []
id_text (Some id) = 32 ∷ decimal id

abbrev pub names_text : CountKey → List ℕ
names_text asked = endpoint_text asked.group ++ id_text asked.member

-- the text of a request
abbrev pub asked_text : CountKey → List ℕ
asked_text asked = codes "totals " ++ names_text asked

pub record IsAskable (asked : CountKey) : Type 0 where
  pub group : IsEndpoint asked.group
  pub member : IfSome asked.member (λ id. id < 2 ^ 32)

-- a table that is known settles by a configuration
abbrev pub SettlesBy : List Group → Option Table → Option Table → Type 0
SettlesBy config None table' = Unit {0}
SettlesBy config (Some table) None = ⊥
SettlesBy config (Some table) (Some table') = table' ≡ settled config table

-- by the current configuration
abbrev pub Settles : OperatorValue → Option Table → Option Table → Type 0
Settles operator table table' = (config : List Group) × IsCurrent operator.view config × SettlesBy config table table'

-- the reply from the current configuration and the table, if it is known, for the names in the request
pub data IsCountsReply (operator : OperatorValue) (table : Option Table) (asked : CountKey) : List ℕ → Type 0 where
  no_group : (config : List Group) → IsCurrent operator.view config → has config (record { group = asked.group; member = None }) ≡ false →
      IsCountsReply operator table asked (refusal_text (Command NoGroup))
  no_member : (config : List Group) → IsCurrent operator.view config → has config (record { group = asked.group; member = None }) ≡ true →
      has config asked ≡ false → IsCountsReply operator table asked (refusal_text (Command NoMember))
  of_group : (config : List Group) (counts : GroupCounts) → IsCurrent operator.view config → asked.member ≡ None → has config asked ≡ true →
      IfSome table (λ table. counts ≡ group_counts asked.group table) → IsCountsReply operator table asked (group_text counts)
  of_member : (config : List Group) (id : ℕ) (counts : MemberCounts) → IsCurrent operator.view config → asked.member ≡ Some id → has config asked ≡ true →
      IfSome table (λ table. counts ≡ member_counts asked.group id table) → IsCountsReply operator table asked (member_text counts)
