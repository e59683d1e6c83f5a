-- Worked examples: what commands leave of small configurations, and which refusal is the first. Programs are numbers here.
use Rattle.std.proofs.Common.{◌≡◌, ◌∷◌, List, None, Some, [], false, refl, true, ℕ}
use Rattle.std.specs.Prelude.{Option}
use Rattle.ipv4_fields.specs.declared.endpoint.Endpoint.{Endpoint}
use Rattle.member_group.specs.declared.command.Command.TheVariants.{AddGroup, ClearFilter, ClearSelector, Join, Leave, LockFilter, RemoveGroup, SetFilter, SetSelector}
use Rattle.member_group.specs.declared.member.Member.{Member}
use Rattle.member_group.specs.declared.refusal.Refusal.TheVariants.{GroupExists, Locked, MemberExists, NoGroup, NoMember, NoProgram}
use Rattle.member_group.specs.Charge.{charge_by, programs_of}
use Rattle.member_group.specs.Command.{after}
use Rattle.member_group.specs.Group.{GroupOf}
use Rattle.member_group.specs.Refusal.{first_refusal}

-- 10.0.0.2:53 and its neighbours
abbrev key : ℕ → Endpoint
key port = record { address = 167772162; port = port }

abbrev member : ℕ → Option ℕ → Member ℕ
member id filter = record { id = id; to = key 9001; filter = filter; locked = false }

abbrev locked_member : ℕ → Option ℕ → Member ℕ
locked_member id filter = record { id = id; to = key 9001; filter = filter; locked = true }

abbrev group : ℕ → Option ℕ → List (Member ℕ) → GroupOf ℕ
group port selector members = record { key = key port; selector = selector; members = members }

abbrev three : List (GroupOf ℕ)
three = group 53 (Some 10) (member 1 None ∷ member 2 (Some 20) ∷ member 3 (Some 30) ∷ []) ∷ []

added_between : after (AddGroup (key 60)) (group 53 None [] ∷ group 99 None [] ∷ []) ≡ group 53 None [] ∷ group 60 None [] ∷ group 99 None [] ∷ []
added_between = refl

removed : after (RemoveGroup (key 53)) (group 53 None [] ∷ group 99 None [] ∷ []) ≡ group 99 None [] ∷ []
removed = refl

joined_last : after (Join (key 53) 7 (key 9001)) three ≡ group 53 (Some 10) (member 1 None ∷ member 2 (Some 20) ∷ member 3 (Some 30) ∷ member 7 None ∷ []) ∷ []
joined_last = refl

last_fills_the_gap : after (Leave (key 53) 1) three ≡ group 53 (Some 10) (member 3 (Some 30) ∷ member 2 (Some 20) ∷ []) ∷ []
last_fills_the_gap = refl

last_leaves : after (Leave (key 53) 3) three ≡ group 53 (Some 10) (member 1 None ∷ member 2 (Some 20) ∷ []) ∷ []
last_leaves = refl

selector_is_replaced : after (SetSelector (key 53) 11) three ≡ group 53 (Some 11) (member 1 None ∷ member 2 (Some 20) ∷ member 3 (Some 30) ∷ []) ∷ []
selector_is_replaced = refl

filter_is_cleared : after (ClearFilter (key 53) 2) three ≡ group 53 (Some 10) (member 1 None ∷ member 2 None ∷ member 3 (Some 30) ∷ []) ∷ []
filter_is_cleared = refl

other_groups_stay : after (ClearSelector (key 53)) (group 53 (Some 10) [] ∷ group 99 (Some 12) [] ∷ []) ≡ group 53 None [] ∷ group 99 (Some 12) [] ∷ []
other_groups_stay = refl

group_exists : first_refusal (AddGroup (key 53)) three ≡ Some GroupExists
group_exists = refl

no_group_before_no_member : first_refusal (ClearFilter (key 54) 9) three ≡ Some NoGroup
no_group_before_no_member = refl

no_member_before_no_program : first_refusal (ClearFilter (key 53) 9) three ≡ Some NoMember
no_member_before_no_program = refl

no_filter : first_refusal (ClearFilter (key 53) 1) three ≡ Some NoProgram
no_filter = refl

member_exists : first_refusal (Join (key 53) 3 (key 1)) three ≡ Some MemberExists
member_exists = refl

lock_stays_apart : after (LockFilter (key 53) 2) three ≡ group 53 (Some 10) (member 1 None ∷ locked_member 2 (Some 20) ∷ member 3 (Some 30) ∷ []) ∷ []
lock_stays_apart = refl

abbrev with_locks : List (GroupOf ℕ)
with_locks = group 53 None (member 1 None ∷ member 2 (Some 20) ∷ locked_member 3 (Some 30) ∷ locked_member 4 None ∷ []) ∷ []

moved_member_keeps_its_lock : after (Leave (key 53) 1) with_locks ≡ group 53 None (locked_member 4 None ∷ member 2 (Some 20) ∷ locked_member 3 (Some 30) ∷ []) ∷ []
moved_member_keeps_its_lock = refl

joins_unlocked : after (Join (key 53) 5 (key 9001)) with_locks ≡ group 53 None (member 1 None ∷ member 2 (Some 20) ∷ locked_member 3 (Some 30) ∷ locked_member 4 None ∷ member 5 None ∷ []) ∷ []
joins_unlocked = refl

locked_again : first_refusal (LockFilter (key 53) 3) with_locks ≡ None
locked_again = refl

no_member_to_lock : first_refusal (LockFilter (key 53) 9) with_locks ≡ Some NoMember
no_member_to_lock = refl

set_at_a_locked_member : first_refusal (SetFilter (key 53) 4 40) with_locks ≡ Some Locked
set_at_a_locked_member = refl

locked_before_no_program : first_refusal (ClearFilter (key 53) 4) with_locks ≡ Some Locked
locked_before_no_program = refl

clear_at_a_locked_member : first_refusal (ClearFilter (key 53) 3) with_locks ≡ Some Locked
clear_at_a_locked_member = refl

clear_beside_a_lock : first_refusal (ClearFilter (key 53) 2) with_locks ≡ None
clear_beside_a_lock = refl

selector_beside_locks : first_refusal (SetSelector (key 53) 10) with_locks ≡ None
selector_beside_locks = refl

locked_member_leaves : first_refusal (Leave (key 53) 3) with_locks ≡ None
locked_member_leaves = refl

set_again : first_refusal (SetSelector (key 53) 10) three ≡ None
set_again = refl

selector_then_filters : programs_of three ≡ 10 ∷ 20 ∷ 30 ∷ []
selector_then_filters = refl

-- 2, and 4 for the group, and 4 for each of three members, and 10, 20 and 30
charge_of_three : charge_by (λ charge. charge) three ≡ 78
charge_of_three = refl
