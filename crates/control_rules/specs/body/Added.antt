-- The lines that are appended to the text of the rules, for a part of the configuration that is read.
use Rattle.std.specs.Prelude.{◌≡◌, ◌∷◌, ◌++◌, Bool, List, Option, Some, [], flat_map, if◌then◌else◌, length, map, option_map, option_to_list, slice_get, ℕ}
use Rattle.ipv4_fields.specs.declared.endpoint.Endpoint.{Endpoint}
use Rattle.bpf_verify.specs.Program.{ProgramValue}
use Rattle.config_image.specs.Image.{Group}
use Rattle.config_diff.specs.Rules.{commands_of, rules_of_group, rules_of_member}
use Rattle.member_group.specs.Group.{group_of, member_of}
use Rattle.member_group.specs.Over.{config_over, group_over, member_over}
use Rattle.member_group.specs.declared.command.Command.{Command}
use Rattle.member_group.specs.declared.command.Command.TheVariants.{LockFilter, SetFilter, SetSelector}
use Rattle.member_group.specs.declared.member.Member.{Member}
use Rattle.control_rules.specs.Text.{changes_text}
use Rattle.control_rules.specs.Shown.{program_at, words_in}

-- the words are those of the program, if it has this number of words
abbrev pub HasWordsOf : List Group → Endpoint → Option ℕ → ℕ → List ℕ → Type 0
HasWordsOf config key owner count words =
    (program : ProgramValue) → program_at key owner config ≡ Some program → count ≡ length program.words → words ≡ program.words

abbrev pub words_of : ProgramValue → List ℕ
words_of program = program.words

-- the lines of these commands
abbrev pub Adds : List (Command (List ℕ)) → List ℕ → List ℕ → Type 0
Adds commands text text' = text' ≡ text ++ changes_text commands

abbrev pub selector_rules : Endpoint → Option ProgramValue → List (Command (List ℕ))
selector_rules key selector = map (λ words. SetSelector key words) (option_to_list (option_map words_of selector))

abbrev pub filter_rules : Endpoint → ℕ → Option ProgramValue → List (Command (List ℕ))
filter_rules key id filter = map (λ words. SetFilter key id words) (option_to_list (option_map words_of filter))

abbrev pub lock_rules : Endpoint → ℕ → Bool → List (Command (List ℕ))
lock_rules key id locked = if locked then LockFilter key id ∷ [] else []

abbrev pub AddsSelector : List Group → Endpoint → ℕ → List ℕ → List ℕ → Type 0
AddsSelector config key count text text' =
    (group : Group) → group_of key config ≡ Some group → count ≡ words_in group.selector →
    Adds (selector_rules key group.selector) text text'

abbrev pub AddsFilter : List Group → Endpoint → ℕ → ℕ → List ℕ → List ℕ → Type 0
AddsFilter config key id count text text' =
    (group : Group) (member : Member ProgramValue) → group_of key config ≡ Some group → member_of id group ≡ Some member →
    count ≡ words_in member.filter → Adds (filter_rules key id member.filter) text text'

abbrev pub AddsMember : List Group → Endpoint → ℕ → List ℕ → List ℕ → Type 0
AddsMember config key index text text' =
    (group : Group) (member : Member ProgramValue) → group_of key config ≡ Some group → slice_get group.members index ≡ Some member →
    Adds (rules_of_member key (member_over words_of member)) text text'

-- the rules of members
abbrev pub members_rules : Endpoint → List (Member ProgramValue) → List (Command (List ℕ))
members_rules key members = flat_map (λ member. rules_of_member key member) (map (member_over words_of) members)

abbrev pub AddsMembers : List Group → Endpoint → ℕ → List ℕ → List ℕ → Type 0
AddsMembers config key count text text' =
    (group : Group) → group_of key config ≡ Some group → count ≡ length group.members →
    Adds (members_rules key group.members) text text'

abbrev pub AddsGroup : List Group → ℕ → List ℕ → List ℕ → Type 0
AddsGroup config index text text' =
    (group : Group) → slice_get config index ≡ Some group → Adds (rules_of_group (group_over words_of group)) text text'

abbrev pub AddsGroups : List Group → ℕ → List ℕ → List ℕ → Type 0
AddsGroups config count text text' = count ≡ length config → Adds (commands_of (config_over words_of config)) text text'
