-- Worked examples: the diffs of small configurations. Programs are numbers here.
use Rattle.std.proofs.Common.{◌≡◌, ◌∷◌, List, None, Some, [], false, refl, true, ℕ}
use Rattle.std.specs.Prelude.{Option, nat_eq}
use Rattle.ipv4_fields.specs.declared.endpoint.Endpoint.{Endpoint}
use Rattle.member_group.specs.declared.command.Command.{Command}
use Rattle.member_group.specs.declared.command.Command.TheVariants.{AddGroup, ClearFilter, ClearSelector, Join, Leave, LockFilter, RemoveGroup, SetFilter, SetSelector}
use Rattle.member_group.specs.declared.member.Member.{Member}
use Rattle.member_group.specs.Group.{GroupOf}
use Rattle.config_diff.specs.Rules.{commands_of}
use Rattle.config_diff.specs.body.Changes.{changes}

-- 10.0.0.2:53 and its neighbours
abbrev key : ℕ → Endpoint
key port = record { address = 167772162; port = port }

abbrev member : ℕ → Option ℕ → Member ℕ
member id filter = record { id = id; to = key 9001; filter = filter; locked = false }

abbrev locked_member : ℕ → Option ℕ → Member ℕ
locked_member id filter = record { id = id; to = key 9001; filter = filter; locked = true }

abbrev group : ℕ → Option ℕ → List (Member ℕ) → GroupOf ℕ
group port selector members = record { key = key port; selector = selector; members = members }

abbrev diff_of : List (GroupOf ℕ) → List (GroupOf ℕ) → List (Command ℕ)
diff_of from to = changes nat_eq from to

-- one group with these members
abbrev one : List (Member ℕ) → List (GroupOf ℕ)
one members = group 53 None members ∷ []

nothing_of_equal : diff_of (group 53 (Some 10) (member 1 None ∷ locked_member 2 (Some 20) ∷ []) ∷ []) (group 53 (Some 10) (member 1 None ∷ locked_member 2 (Some 20) ∷ []) ∷ []) ≡ []
nothing_of_equal = refl

unwanted_groups_first : diff_of (group 53 None [] ∷ group 99 None [] ∷ []) (group 40 None [] ∷ group 53 None [] ∷ []) ≡ RemoveGroup (key 99) ∷ AddGroup (key 40) ∷ []
unwanted_groups_first = refl

selector_is_set : diff_of (group 53 (Some 10) [] ∷ []) (group 53 (Some 11) [] ∷ []) ≡ SetSelector (key 53) 11 ∷ []
selector_is_set = refl

selector_is_cleared : diff_of (group 53 (Some 10) [] ∷ []) (group 53 None [] ∷ []) ≡ ClearSelector (key 53) ∷ []
selector_is_cleared = refl

filter_is_set : diff_of (one (member 1 None ∷ [])) (one (member 1 (Some 20) ∷ [])) ≡ SetFilter (key 53) 1 20 ∷ []
filter_is_set = refl

filter_is_cleared_and_locked : diff_of (one (member 1 (Some 20) ∷ [])) (one (locked_member 1 None ∷ [])) ≡ ClearFilter (key 53) 1 ∷ LockFilter (key 53) 1 ∷ []
filter_is_cleared_and_locked = refl

-- 2 cannot stay at index 1, so 3 leaves before it
last_leaves_first : diff_of (one (member 1 None ∷ member 2 None ∷ member 3 None ∷ [])) (one (member 1 None ∷ member 3 None ∷ [])) ≡ Leave (key 53) 3 ∷ Leave (key 53) 2 ∷ Join (key 53) 3 (key 9001) ∷ []
last_leaves_first = refl

joins_last : diff_of (one (member 1 None ∷ [])) (one (member 1 None ∷ locked_member 2 (Some 20) ∷ [])) ≡ Join (key 53) 2 (key 9001) ∷ SetFilter (key 53) 2 20 ∷ LockFilter (key 53) 2 ∷ []
joins_last = refl

locked_with_another_filter : diff_of (one (locked_member 1 (Some 20) ∷ [])) (one (locked_member 1 (Some 21) ∷ [])) ≡ Leave (key 53) 1 ∷ Join (key 53) 1 (key 9001) ∷ SetFilter (key 53) 1 21 ∷ LockFilter (key 53) 1 ∷ []
locked_with_another_filter = refl

no_longer_locked : diff_of (one (locked_member 1 None ∷ [])) (one (member 1 None ∷ [])) ≡ Leave (key 53) 1 ∷ Join (key 53) 1 (key 9001) ∷ []
no_longer_locked = refl

rules_in_order : commands_of (group 53 (Some 10) (member 1 None ∷ locked_member 2 (Some 20) ∷ []) ∷ group 99 None [] ∷ []) ≡
    AddGroup (key 53) ∷ SetSelector (key 53) 10 ∷ Join (key 53) 1 (key 9001) ∷ Join (key 53) 2 (key 9001) ∷ SetFilter (key 53) 2 20 ∷ LockFilter (key 53) 2 ∷ AddGroup (key 99) ∷ []
rules_in_order = refl
