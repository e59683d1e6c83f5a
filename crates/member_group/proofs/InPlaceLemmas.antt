-- What a command on a group comes to in a configuration that has it at a place.
use Rattle.std.proofs.Common.{◌<◌, ◌∙◌, ◌≡◌, Err, List, None, Ok, Result, ap, get_or, length, refl, set, sym, ℕ}
use Rattle.std.specs.Prelude.{IsErrAnd, OnErr, OnOk}
use Rattle.bpf_verify.specs.Program.{ProgramValue}
use Rattle.ipv4_fields.specs.declared.endpoint.Endpoint.{Endpoint}
use Rattle.std.proofs.lemmas.List.{get_or_read}
use Rattle.member_group.specs.Command.{after, with_changed}
use Rattle.member_group.specs.Group.{GroupOf, IsConfig, IsGroup, group_of, has_key}
use Rattle.member_group.specs.Place.{IsOnlyAt}
use Rattle.member_group.specs.Refusal.{IsAnswer, first_of, first_refusal, in_group}
use Rattle.member_group.specs.body.InPlace.{IsOnGroup, causes_of, changed_by}
use Rattle.member_group.specs.declared.command.Command.{Command}
use Rattle.member_group.specs.declared.command.Command.TheVariants.{AddGroup, ClearFilter, ClearSelector, Join, Leave, LockFilter, RemoveGroup, SetFilter, SetSelector}
use Rattle.member_group.specs.declared.refusal.Refusal.{Refusal}
use Rattle.member_group.specs.declared.refusal.Refusal.TheVariants.{NoGroup}
use Rattle.member_group.proofs.AnswerLemmas.{group_refused, made_value, made_without_refusal, no_group}
use Rattle.member_group.proofs.ConfigLemmas.{replaced_is_config}
use Rattle.member_group.proofs.ListLemmas.{find-only_at, map-only_at}

refusal_on_group : {P : Type 0} (key : Endpoint) (command : Command P) (config : List (GroupOf P)) → IsOnGroup key command → first_refusal command config ≡ in_group (causes_of command) (group_of key config)
refusal_on_group key (AddGroup other) config on = absurd on
refusal_on_group key (RemoveGroup other) config on = absurd on
refusal_on_group key (Join other id to) config on = rw on refl
refusal_on_group key (Leave other id) config on = rw on refl
refusal_on_group key (SetSelector other program) config on = rw on refl
refusal_on_group key (ClearSelector other) config on = rw on refl
refusal_on_group key (SetFilter other id program) config on = rw on refl
refusal_on_group key (ClearFilter other id) config on = rw on refl
refusal_on_group key (LockFilter other id) config on = rw on refl

after_on_group : {P : Type 0} (key : Endpoint) (command : Command P) (config : List (GroupOf P)) → IsOnGroup key command → after command config ≡ with_changed key (changed_by command) config
after_on_group key (AddGroup other) config on = absurd on
after_on_group key (RemoveGroup other) config on = absurd on
after_on_group key (Join other id to) config on = rw on refl
after_on_group key (Leave other id) config on = rw on refl
after_on_group key (SetSelector other program) config on = rw on refl
after_on_group key (ClearSelector other) config on = rw on refl
after_on_group key (SetFilter other id program) config on = rw on refl
after_on_group key (ClearFilter other id) config on = rw on refl
after_on_group key (LockFilter other id) config on = rw on refl

pub key_kept : {P : Type 0} (command : Command P) (group : GroupOf P) → (changed_by command group).key ≡ group.key
key_kept (AddGroup key) group = refl
key_kept (RemoveGroup key) group = refl
key_kept (Join key id to) group = refl
key_kept (Leave key id) group = refl
key_kept (SetSelector key program) group = refl
key_kept (ClearSelector key) group = refl
key_kept (SetFilter key id program) group = refl
key_kept (ClearFilter key id) group = refl
key_kept (LockFilter key id) group = refl

module _ {P : Type 0} (key : Endpoint) (command : Command P) (config : List (GroupOf P)) (at : ℕ) (group : GroupOf P) (on : IsOnGroup key command) (only : IsOnlyAt (has_key key) config at) (is : group ≡ get_or config at group) where
  pub group_answer : {V : Type 0} (value : V) (result : Result V Refusal) → IsAnswer (first_of (causes_of command group)) value result → IsAnswer (first_refusal command config) value result
  group_answer value result answer = rw (refusal_on_group key command config on, find-only_at (has_key key) config at group is only) answer

  group_set : (changed : GroupOf P) → changed ≡ changed_by command group → set config at changed ≡ after command config
  group_set changed same =
      ap (λ g. set config at g) same
      ∙ sym (map-only_at (has_key key) (changed_by command) config at group is only)
      ∙ sym (after_on_group key command config on)

  pub group_set_at : {V E : Type 0} (there : List (GroupOf P)) (changed : GroupOf P) (result : Result V E) → there ≡ config → OnOk result (changed ≡ changed_by command group) → OnOk result (set there at changed ≡ after command config)
  group_set_at there changed (Ok done) same is_changed = ap (λ (groups : List (GroupOf P)). set groups at changed) same ∙ group_set changed is_changed
  group_set_at there changed (Err refusal) same refused = tt

  pub group_refused_by : {W : Type 0} (value : W) (refusal : Refusal) (result : Result W Refusal) → IsAnswer (first_of (causes_of command group)) (changed_by command group) (Err refusal) → IsErrAnd result (λ passed. passed ≡ refusal)
      → IsAnswer (first_refusal command config) value result
  group_refused_by value refusal result answer told =
      rw (refusal_on_group key command config on) (group_refused (causes_of command) (changed_by command) key config at group value refusal result only is answer told)

  pub none_refused : (changed : GroupOf P) → IsAnswer (first_of (causes_of command group)) (changed_by command group) (Ok changed) → first_refusal command config ≡ None
  none_refused changed answer =
      rw (refusal_on_group key command config on, find-only_at (has_key key) config at group is only) (made_without_refusal (first_of (causes_of command group)) (changed_by command group) changed answer)

  pub group_changed_by : (changed : GroupOf P) (made : List (GroupOf P)) → IsAnswer (first_of (causes_of command group)) (changed_by command group) (Ok changed) → made ≡ set config at changed → made ≡ after command config
  group_changed_by changed made answer is_made = is_made ∙ group_set changed (made_value (first_of (causes_of command group)) (changed_by command group) changed answer)

pub group_missing : {P W : Type 0} (key : Endpoint) (command : Command P) (config : List (GroupOf P)) → IsOnGroup key command → (value : W) (refusal : Refusal) (result : Result W Refusal) → (refusal ≡ NoGroup) × (group_of key config ≡ None)
    → IsErrAnd result (λ passed. passed ≡ refusal) → IsAnswer (first_refusal command config) value result
group_missing key command config on value refusal result absent told =
    rw (refusal_on_group key command config on) (no_group (causes_of command) (group_of key config) value refusal result absent told)

-- the group has its key, whether it was changed or the command refused
same_group_key : {P V E : Type 0} (command : Command P) (group new : GroupOf P) (result : Result V E) → OnOk result (new ≡ changed_by command group) → OnErr result (new ≡ group) → new.key ≡ group.key
same_group_key {P} command group new (Ok done) changed kept = ap (λ (g : GroupOf P). g.key) changed ∙ key_kept command group
same_group_key {P} command group new (Err refusal) changed kept = ap (λ (g : GroupOf P). g.key) kept

pub IsConfig-set_group : {V E : Type 0} (command : Command ProgramValue) (config : List (GroupOf ProgramValue)) (at : ℕ) (group new : GroupOf ProgramValue) (result : Result V E) → IsConfig config → at < length config → group ≡ get_or config at group
    → OnOk result (new ≡ changed_by command group) → OnErr result (new ≡ group) → IsGroup new → IsConfig (set config at new)
IsConfig-set_group command config at group new result is_config inside is changed kept is_group =
    replaced_is_config config at new is_config inside
    (ap (λ (g : GroupOf ProgramValue). g.key) (sym (get_or_read config at group inside is new)) ∙ sym (same_group_key command group new result changed kept))
    is_group
