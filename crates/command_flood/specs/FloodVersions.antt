-- The versions of `flood` (docs/COMMANDS.md, "flood").
use Rattle.std.specs.Prelude.{◌==◌, ◌%◌, ◌∷◌, if◌then◌else◌, List, None, Option, Some, [], false, length, ℕ}
use Rattle.bpf_verify.specs.Program.{ProgramValue}
use Rattle.config_image.specs.Image.{Group}
use Rattle.ipv4_fields.specs.declared.endpoint.Endpoint.{Endpoint}
use Rattle.member_group.specs.declared.command.Command.{Command}
use Rattle.member_group.specs.declared.command.Command.TheVariants.{Join}
use Rattle.member_group.specs.declared.member.Member.{Member}
use Rattle.command_line.specs.declared.sample.TheConstants.{SAMPLE_GROUP}
use Rattle.command_flood.specs.declared.flood_versions.TheConstants.{MEMBERS_ADDRESS, SELECT_FIRST, SELECT_SECOND}

-- a port of the members' address
abbrev pub at_port : ℕ → Endpoint
at_port port = record { address = MEMBERS_ADDRESS; port = port }

abbrev pub join_of : ℕ → ℕ → Command ProgramValue
join_of member port = Join SAMPLE_GROUP member (at_port port)

abbrev pub member_at : ℕ → ℕ → Member ProgramValue
member_at id port = record { id = id; to = at_port port; filter = None; locked = false }

-- the sample group with three members and a selector or none
abbrev pub three_members : Option ProgramValue → List Group
three_members selector =
    record { key = SAMPLE_GROUP; selector = selector; members = member_at 1 9001 ∷ member_at 2 9002 ∷ member_at 3 9003 ∷ [] } ∷ []

abbrev pub opening_version : List Group
opening_version = three_members None

-- these words are the selector
abbrev pub selecting : List ℕ → List Group
selecting words = three_members (Some (record { words = words; charge = length words }))

-- the first and the second member are selected in turn
abbrev pub selector_at : ℕ → List ℕ
selector_at i = if i % 2 == 0 then SELECT_FIRST.now else SELECT_SECOND.now

abbrev pub successor_at : ℕ → List Group
successor_at i = selecting (selector_at i)
