-- Commands that lead from one configuration to another, one after another, and over programs of another kind.
use Rattle.std.proofs.Common.{◌++◌, ◌∙◌, ◌∷◌, ◌≡◌, List, None, Some, [], ap, false, map, refl, subst, sym, true, ℕ}
use Rattle.std.specs.Prelude.{if◌then◌else◌, Option, flat_map, option_map, option_to_list}
use Rattle.std.specs.Borrow.{Bor}
use Rattle.std.proofs.lemmas.List.{map-append}
use Rattle.ipv4_fields.specs.declared.endpoint.Endpoint.{Endpoint}
use Rattle.member_group.specs.declared.command.Command.{Command}
use Rattle.member_group.specs.declared.command.Command.TheVariants.{AddGroup, ClearFilter, ClearSelector, Join, Leave, LockFilter, RemoveGroup, SetFilter, SetSelector}
use Rattle.member_group.specs.declared.member.Member.{Member}
use Rattle.member_group.specs.Command.{after}
use Rattle.member_group.specs.Group.{GroupOf}
use Rattle.member_group.specs.Over.{command_over, config_over, group_over, member_over}
use Rattle.member_group.proofs.OverLemmas.{after-over, first_refusal-over}
use Rattle.bpf_verify.specs.Program.{ProgramValue}
use Rattle.config_diff.specs.Lead.{LeadTo}
use Rattle.config_diff.specs.Rules.{commands_of, rules_of_group, rules_of_member}
use Rattle.config_diff.specs.Words.{words_config, words_of_commands}

-- commands lead on from where others lead to
pub lead_both : {P : Type 0} (commands more : List (Command P)) (a b c : List (GroupOf P)) → LeadTo commands a b → LeadTo more b c → LeadTo (commands ++ more) a c
lead_both [] more a b c first second = subst (λ it. LeadTo more it c) (sym first) second
lead_both (command ∷ commands) more a b c first second = (first.0, lead_both commands more (after command a) b c first.1 second)

-- the last configuration
abbrev pub after_all : {P : Type 0} → List (Command P) → List (GroupOf P) → List (GroupOf P)
after_all [] config = config
after_all (command ∷ commands) config = after_all commands (after command config)

-- ---- over programs of another kind

module _ {P Q : Type 0} (over : P → Q) where
  pub lead_over : (commands : List (Command P)) (from to : List (GroupOf P)) → LeadTo commands from to → LeadTo (map (command_over over) commands) (config_over over from) (config_over over to)
  lead_over [] from to leads = ap (config_over over) leads
  lead_over (command ∷ commands) from to leads = (
    first_refusal-over over command from ∙ leads.0,
    subst (λ next. LeadTo (map (command_over over) commands) next (config_over over to)) (sym (after-over over command from)) (lead_over commands (after command from) to leads.1),
  )

  -- the commands themselves are not refused either, and their last configuration is one of that other kind
  pub lead_under : (commands : List (Command P)) (from : List (GroupOf P)) (to : List (GroupOf Q)) → LeadTo (map (command_over over) commands) (config_over over from) to →
      LeadTo commands from (after_all commands from) × (config_over over (after_all commands from) ≡ to)
  lead_under [] from to leads = (refl, leads)
  lead_under (command ∷ commands) from to leads =
      let rest = lead_under commands (after command from) to (subst (λ next. LeadTo (map (command_over over) commands) next to) (after-over over command from) leads.1) in
      ((sym (first_refusal-over over command from) ∙ leads.0, rest.0), rest.1)

  -- ---- the rules of a configuration

  set_over : (set : P → Command P) (set_too : Q → Command Q) → ((p : P) → command_over over (set p) ≡ set_too (over p)) → (program : Option P) →
      map set_too (option_to_list (option_map over program)) ≡ map (command_over over) (map set (option_to_list program))
  set_over set set_too same None = refl
  set_over set set_too same (Some p) = ap (λ command. command ∷ []) (sym (same p))

  member_rules_over : (key : Endpoint) (member : Member P) → rules_of_member key (member_over over member) ≡ map (command_over over) (rules_of_member key member)
  member_rules_over key member =
      ap (λ rest. Join key member.id member.to ∷ rest ++ (if member.locked then LockFilter key member.id ∷ [] else []))
      (set_over (λ program. SetFilter key member.id program) (λ program. SetFilter key member.id program) (λ program. refl) member.filter)
      ∙ ap (λ rest. Join key member.id member.to ∷ map (command_over over) (map (λ program. SetFilter key member.id program) (option_to_list member.filter)) ++ rest)
      (elim member.locked as (λ b. (if b then LockFilter key member.id ∷ [] else []) ≡ map (command_over over) (if b then LockFilter key member.id ∷ [] else [])) [ true ↦ refl | false ↦ refl ])
      ∙ ap (λ rest. Join key member.id member.to ∷ rest)
      (sym (map-append (command_over over) (map (λ program. SetFilter key member.id program) (option_to_list member.filter)) (if member.locked then LockFilter key member.id ∷ [] else [])))

  members_rules_over : (key : Endpoint) (members : List (Member P)) →
      flat_map (λ member. rules_of_member key member) (map (member_over over) members) ≡ map (command_over over) (flat_map (λ member. rules_of_member key member) members)
  members_rules_over key [] = refl
  members_rules_over key (member ∷ members) =
      ap (λ front. front ++ flat_map (λ member. rules_of_member key member) (map (member_over over) members)) (member_rules_over key member)
      ∙ ap (λ back. map (command_over over) (rules_of_member key member) ++ back) (members_rules_over key members)
      ∙ sym (map-append (command_over over) (rules_of_member key member) (flat_map (λ member. rules_of_member key member) members))

  group_rules_over : (group : GroupOf P) → rules_of_group (group_over over group) ≡ map (command_over over) (rules_of_group group)
  group_rules_over group =
      ap (λ front. AddGroup group.key ∷ front ++ flat_map (λ member. rules_of_member group.key member) (map (member_over over) group.members))
      (set_over (λ program. SetSelector group.key program) (λ program. SetSelector group.key program) (λ program. refl) group.selector)
      ∙ ap (λ back. AddGroup group.key ∷ map (command_over over) (map (λ program. SetSelector group.key program) (option_to_list group.selector)) ++ back) (members_rules_over group.key group.members)
      ∙ ap (λ rest. AddGroup group.key ∷ rest)
      (sym (map-append (command_over over) (map (λ program. SetSelector group.key program) (option_to_list group.selector)) (flat_map (λ member. rules_of_member group.key member) group.members)))

  pub commands_of-over : (config : List (GroupOf P)) → commands_of (config_over over config) ≡ map (command_over over) (commands_of config)
  commands_of-over [] = refl
  commands_of-over (group ∷ config) =
      ap (λ front. front ++ commands_of (config_over over config)) (group_rules_over group)
      ∙ ap (λ back. map (command_over over) (rules_of_group group) ++ back) (commands_of-over config)
      ∙ sym (map-append (command_over over) (rules_of_group group) (commands_of config))

-- ---- commands that lend their programs

same_words_lent : (command : Command (Bor ProgramValue)) → command_over (λ program. program.now.words) command ≡ command_over (λ program. program.words) (command_over (λ program. program.now) command)
same_words_lent (AddGroup key) = refl
same_words_lent (RemoveGroup key) = refl
same_words_lent (Join key id to) = refl
same_words_lent (Leave key id) = refl
same_words_lent (SetSelector key program) = refl
same_words_lent (ClearSelector key) = refl
same_words_lent (SetFilter key id program) = refl
same_words_lent (ClearFilter key id) = refl
same_words_lent (LockFilter key id) = refl

-- the commands with the programs themselves
abbrev pub programs_of_commands : List (Command (Bor ProgramValue)) → List (Command ProgramValue)
programs_of_commands commands = map (command_over (λ program. program.now)) commands

words_by_programs : (commands : List (Command (Bor ProgramValue))) → words_of_commands commands ≡ map (command_over (λ program. program.words)) (programs_of_commands commands)
words_by_programs [] = refl
words_by_programs (command ∷ commands) =
    ap (λ first. first ∷ words_of_commands commands) (same_words_lent command)
    ∙ ap (λ rest. command_over (λ program. program.words) (command_over (λ program. program.now) command) ∷ rest) (words_by_programs commands)

-- commands that lead somewhere by words are not refused by the configuration itself, and lead to one of those words
pub programs_lead : (commands : List (Command (Bor ProgramValue))) (from : List (GroupOf ProgramValue)) (to : List (GroupOf (List ℕ))) → LeadTo (words_of_commands commands) (words_config from) to →
    LeadTo (programs_of_commands commands) from (after_all (programs_of_commands commands) from) × (words_config (after_all (programs_of_commands commands) from) ≡ to)
programs_lead commands from to leads =
    lead_under (λ program. program.words) (programs_of_commands commands) from to (subst (λ it. LeadTo it (words_config from) to) (words_by_programs commands) leads)
