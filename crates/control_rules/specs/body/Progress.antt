-- How far the rules are read.
use Rattle.std.specs.Prelude.{◌≡◌, List, Option, Some, length, take, ℕ}
use Rattle.ipv4_fields.specs.declared.endpoint.Endpoint.{Endpoint}
use Rattle.bpf_verify.specs.Program.{ProgramValue}
use Rattle.config_diff.specs.Rules.{commands_of}
use Rattle.config_image.specs.Image.{Group}
use Rattle.member_group.specs.Group.{group_of}
use Rattle.member_group.specs.Over.{config_over}
use Rattle.control_rules.specs.body.Added.{Adds, members_rules, words_of}
use Rattle.control_rules.specs.Shown.{program_at}

-- the words are the first ones of the program
abbrev pub AreFirstWords : List Group → Endpoint → Option ℕ → List ℕ → Type 0
AreFirstWords config key owner words =
    (program : ProgramValue) → program_at key owner config ≡ Some program → words ≡ take (length words) program.words

-- the rules of the first members, if the group has this number of members
abbrev pub AddsFirstMembers : List Group → Endpoint → ℕ → ℕ → List ℕ → List ℕ → Type 0
AddsFirstMembers config key members count text text' =
    (group : Group) → group_of key config ≡ Some group → members ≡ length group.members →
    Adds (members_rules key (take count group.members)) text text'

-- the rules of the first groups, if there is this number of groups
abbrev pub AddsFirstGroups : List Group → ℕ → ℕ → List ℕ → List ℕ → Type 0
AddsFirstGroups config groups count text text' = groups ≡ length config → Adds (commands_of (config_over words_of (take count config))) text text'
