-- What the parts of a group or of a configuration append, put together.
use Rattle.std.proofs.Common.{◌++◌, ◌∙◌, ◌∷◌, ◌≡◌, ◌≤◌, Bool, List, None, Some, [], ap, false, is_some, length, map, refl, subst, sym, take, true, ℕ}
use Rattle.std.specs.Prelude.{if◌then◌else◌, Option, flat_map, option_map, option_to_list}
use Rattle.std.specs.Borrow.{Bor}
use Rattle.std.specs.Cmp.Lexicographic.{bytes_decides}
use Rattle.std.proofs.lemmas.List.{take_all}
use Rattle.std.proofs.lemmas.List.Folds.{flat_map-map}
use Rattle.bpf_verify.specs.Program.{ProgramValue}
use Rattle.ipv4_fields.specs.declared.endpoint.Endpoint.{Endpoint}
use Rattle.member_group.specs.declared.command.Command.{Command}
use Rattle.member_group.specs.declared.command.Command.TheVariants.{AddGroup, RemoveGroup, SetSelector}
use Rattle.member_group.specs.declared.member.Member.{Member}
use Rattle.member_group.specs.Group.{GroupOf, IsConfig, group_of}
use Rattle.member_group.proofs.OverLemmas.{group-over}
use Rattle.config_diff.specs.Lead.{LeadTo}
use Rattle.config_diff.specs.Rules.{commands_of, rules_of_group, rules_of_member}
use Rattle.config_diff.specs.Untouched.{LeaveEqualBeginnings, LeaveEqualGroups}
use Rattle.config_diff.specs.Words.{words_config, words_of_commands}
use Rattle.config_diff.specs.body.Appended.{HasMore, words_group, words_member, words_program}
use Rattle.config_diff.specs.body.Changes.{changes, group_changes, members_changes, removal, same_words, selector_changes}
use Rattle.config_diff.proofs.BeginningLemmas.{equal_beginnings}
use Rattle.config_diff.proofs.BodyLemmas.{lent_words, more_of_both, no_more}
use Rattle.config_diff.proofs.ChangesLemmas.{changes_lead}
use Rattle.config_diff.proofs.MembersLemmas.{IsTest}
use Rattle.config_diff.proofs.ShapeLemmas.{IsShaped, shaped_config, shaped_over}
use Rattle.config_diff.proofs.UntouchedLemmas.{IsReflexive, equal_groups, nothing_of_equal}

abbrev Lent : Type 0
Lent = Command (Bor ProgramValue)

abbrev Groups : Type 0
Groups = List (GroupOf ProgramValue)

-- the group of a key that is lent, by its words
pub found_words : (key : Endpoint) (found : Option (Bor (GroupOf ProgramValue))) (groups : Groups) → option_map (λ group. group.now) found ≡ group_of key groups →
    option_map (λ group. words_group group.now) found ≡ group_of key (words_config groups)
found_words key found groups is = by_found found ∙ ap (option_map words_group) is ∙ sym (group-over (λ program. program.words) key groups)
  where
    by_found : (found : Option (Bor (GroupOf ProgramValue))) → option_map (λ group. words_group group.now) found ≡ option_map words_group (option_map (λ group. group.now) found)
    by_found None = refl
    by_found (Some group) = refl

module _ (group : GroupOf ProgramValue) (key : Endpoint) (selector : Option (Bor ProgramValue)) (members : List (Member ProgramValue)) (key_is : key ≡ group.key) (selector_is : option_map (λ one. one.now) selector ≡ group.selector) (members_are : members ≡ group.members) where
  pub rules_appended : (a b c d : List Lent) → HasMore a b (AddGroup key ∷ []) → HasMore b c (map (λ program. SetSelector key program) (option_to_list (words_program selector))) →
      HasMore c d (flat_map (λ member. rules_of_member key member) (map words_member members)) → HasMore a d (rules_of_group (words_group group))
  rules_appended a b c d added selected joined =
      subst (HasMore a d)
      (
      ap (λ key. AddGroup key ∷ map (λ program. SetSelector key program) (option_to_list (words_program selector)) ++ flat_map (λ member. rules_of_member key member) (map words_member members)) key_is
      ∙ ap (λ program. AddGroup group.key ∷ map (λ program. SetSelector group.key program) (option_to_list program) ++ flat_map (λ member. rules_of_member group.key member) (map words_member members)) (lent_words selector group.selector selector_is)
      ∙ ap (λ members. rules_of_group (words_group (record group { members = members }))) members_are
      )
      (more_of_both a b d _ _ added (more_of_both b c d _ _ selected joined))

  pub changes_appended : (one : GroupOf ProgramValue) (one_selector : Option (Bor ProgramValue)) (one_members : List (Member ProgramValue)) → option_map (λ one. one.now) one_selector ≡ one.selector → one_members ≡ one.members →
      (a b c : List Lent) → HasMore a b (selector_changes same_words key (words_program one_selector) (words_program selector)) →
      HasMore b c (members_changes same_words key (map words_member one_members) (map words_member members)) → HasMore a c (group_changes same_words (Some (words_group one)) (words_group group))
  changes_appended one one_selector one_members one_selector_is one_members_are a b c selected changed =
      subst (HasMore a c)
      (
      ap (λ key. selector_changes same_words key (words_program one_selector) (words_program selector) ++ members_changes same_words key (map words_member one_members) (map words_member members)) key_is
      ∙ ap (λ program. selector_changes same_words group.key program (words_program selector) ++ members_changes same_words group.key (map words_member one_members) (map words_member members)) (lent_words one_selector one.selector one_selector_is)
      ∙ ap (λ program. selector_changes same_words group.key (option_map (λ program. program.words) one.selector) program ++ members_changes same_words group.key (map words_member one_members) (map words_member members)) (lent_words selector group.selector selector_is)
      ∙ ap (λ from. selector_changes same_words group.key (option_map (λ program. program.words) one.selector) (option_map (λ program. program.words) group.selector) ++ members_changes same_words group.key (map words_member from) (map words_member members)) one_members_are
      ∙ ap (λ to. selector_changes same_words group.key (option_map (λ program. program.words) one.selector) (option_map (λ program. program.words) group.selector) ++ members_changes same_words group.key (map words_member one.members) (map words_member to)) members_are
      )
      (more_of_both a b c _ _ selected changed)

-- what the two loops append
pub all_changes : (from to : Groups) (a b : List Lent) → HasMore [] a (flat_map (λ group. removal (words_config to) (words_group group)) from) →
    HasMore a b (flat_map (λ group. group_changes same_words (group_of group.key (words_config from)) (words_group group)) to) → words_of_commands b ≡ changes same_words (words_config from) (words_config to)
all_changes from to a b removed changed =
    (more_of_both [] a b _ _ removed changed).more
    ∙ ap (λ front. front ++ flat_map (λ group. group_changes same_words (group_of group.key (words_config from)) (words_group group)) to) (sym (flat_map-map (λ group. removal (words_config to) group) words_group from))
    ∙ ap (λ back. flat_map (λ group. removal (words_config to) group) (words_config from) ++ back) (sym (flat_map-map (λ group. group_changes same_words (group_of group.key (words_config from)) group) words_group to))

module _ (key : Endpoint) (group : GroupOf ProgramValue) (key_is : key ≡ group.key) (found : Option (Bor (GroupOf ProgramValue))) (groups : Groups) (found_is : option_map (λ group. group.now) found ≡ group_of key groups) where
  found_at : option_map (λ group. words_group group.now) found ≡ group_of group.key (words_config groups)
  found_at = found_words group.key found groups (found_is ∙ ap (λ key. group_of key groups) key_is)

  pub with_found : (a b : List Lent) → HasMore a b (group_changes same_words (option_map (λ group. words_group group.now) found) (words_group group)) →
      HasMore a b (group_changes same_words (group_of group.key (words_config groups)) (words_group group))
  with_found a b more = subst (λ one. HasMore a b (group_changes same_words one (words_group group))) found_at more

  pub found_some : (some : Bool) → is_some found ≡ some → is_some (group_of group.key (words_config groups)) ≡ some
  found_some some is = sym (ap is_some found_at) ∙ by_found found ∙ is
    where
      by_found : (found : Option (Bor (GroupOf ProgramValue))) → is_some (option_map (λ group. words_group group.now) found) ≡ is_some found
      by_found None = refl
      by_found (Some one) = refl

  pub stays_appended : is_some found ≡ true → (a : List Lent) → HasMore a a (removal (words_config groups) (words_group group))
  stays_appended some a = subst (λ some. HasMore a a (if some then [] else RemoveGroup group.key ∷ [])) (sym (found_some true some)) (no_more a)

  pub removal_appended : is_some found ≡ false → (a b : List Lent) → HasMore a b (RemoveGroup key ∷ []) → HasMore a b (removal (words_config groups) (words_group group))
  removal_appended none a b more =
      subst (λ some. HasMore a b (if some then [] else RemoveGroup group.key ∷ [])) (sym (found_some false none)) (subst (λ key. HasMore a b (RemoveGroup key ∷ [])) key_is more)

pub at_the_end : (from to there wanted : Groups) (i j : ℕ) (empty a b : List Lent) → empty ≡ [] → there ≡ from → wanted ≡ to → length there ≤ i → length wanted ≤ j →
    HasMore empty a (flat_map (λ group. removal (words_config wanted) (words_group group)) (take i there)) →
    HasMore a b (flat_map (λ group. group_changes same_words (group_of group.key (words_config there)) (words_group group)) (take j wanted)) → words_of_commands b ≡ changes same_words (words_config from) (words_config to)
at_the_end from to there wanted i j empty a b nothing there_is wanted_is all all_wanted removed changed =
    all_changes there wanted a b
    (subst (λ old. HasMore old a (flat_map (λ group. removal (words_config wanted) (words_group group)) there)) nothing
    (subst (λ groups. HasMore empty a (flat_map (λ group. removal (words_config wanted) (words_group group)) groups)) (take_all i there all) removed))
    (subst (λ groups. HasMore a b (flat_map (λ group. group_changes same_words (group_of group.key (words_config there)) (words_group group)) groups)) (take_all j wanted all_wanted) changed)
    ∙ ap (λ groups. changes same_words (words_config groups) (words_config wanted)) there_is
    ∙ ap (λ groups. changes same_words (words_config from) (words_config groups)) wanted_is

-- programs of the same words are the same
pub words_tell : IsTest same_words
words_tell p q same = (bytes_decides p q).0 same

pub words_same : IsReflexive same_words
words_same p = (bytes_decides p p).1 refl

-- what comes of the changes
module _ (from to : Groups) (is_from : IsConfig from) (is_to : IsConfig to) where
  shaped : IsShaped (words_config from)
  shaped = shaped_over (λ program. program.words) from (shaped_config from is_from)

  shaped_to : IsShaped (words_config to)
  shaped_to = shaped_over (λ program. program.words) to (shaped_config to is_to)

  module _ (items : List Lent) (are : words_of_commands items ≡ changes same_words (words_config from) (words_config to)) where
    pub items_lead : LeadTo (words_of_commands items) (words_config from) (words_config to)
    items_lead = subst (λ commands. LeadTo commands (words_config from) (words_config to)) (sym are) (changes_lead same_words words_tell (words_config from) (words_config to) shaped shaped_to)

    pub none_of_equal : words_config from ≡ words_config to → items ≡ []
    none_of_equal equal = no_words items (are ∙ nothing_of_equal same_words words_same (words_config from) (words_config to) shaped shaped_to equal)
      where
        no_words : (items : List Lent) → words_of_commands items ≡ [] → items ≡ []
        no_words [] none = refl
        no_words (item ∷ items) none = cc

    pub leave_equal_groups : LeaveEqualGroups (words_of_commands items) (words_config from) (words_config to)
    leave_equal_groups =
        subst (λ commands. LeaveEqualGroups commands (words_config from) (words_config to)) (sym are) (equal_groups same_words words_same (words_config from) (words_config to) shaped shaped_to)

    pub leave_equal_beginnings : LeaveEqualBeginnings (words_of_commands items) (words_config from) (words_config to)
    leave_equal_beginnings =
        subst (λ commands. LeaveEqualBeginnings commands (words_config from) (words_config to)) (sym are) (equal_beginnings same_words words_same (words_config from) (words_config to) shaped shaped_to)

    pub rules_of_nothing : from ≡ [] → words_of_commands items ≡ commands_of (words_config to)
    rules_of_nothing nothing = are ∙ ap (λ from. changes same_words (words_config from) (words_config to)) nothing
