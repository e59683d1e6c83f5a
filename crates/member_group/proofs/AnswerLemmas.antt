-- Answers to commands.
use Rattle.std.proofs.Common.{◌<◌, ◌≡◌, ◌≤◌, ◌∙◌, Bool, Err, List, None, Ok, Result, Some, ap, false, get_or, length, refl, sym, true, ℕ}
use Rattle.std.specs.Prelude.{IsErr, IsErrAnd, OnErr, OnOk, Option, is_none, is_some}
use Rattle.std.proofs.lemmas.Bool.{le-leb, lt-leb}
use Rattle.std.proofs.lemmas.List.{get_or_read}
use Rattle.member_group.specs.declared.TheConstants.{GROUP_LIMIT, MEMBER_LIMIT}
use Rattle.member_group.specs.declared.member.Member.{Member}
use Rattle.member_group.specs.declared.refusal.Refusal.{Refusal}
use Rattle.member_group.specs.declared.refusal.Refusal.TheVariants.{GroupExists, GroupFull, Locked, MemberExists, NoGroup, NoMember, NoProgram, OutOfMemory, TooManyGroups}
use Rattle.ipv4_fields.specs.declared.endpoint.Endpoint.{Endpoint}
use Rattle.member_group.specs.declared.command.Command.TheVariants.{AddGroup, RemoveGroup}
use Rattle.member_group.specs.Group.{GroupOf, group_of, has_id, has_key, member_of}
use Rattle.member_group.specs.Place.{IsGapFor, IsNowhere, IsOnlyAt}
use Rattle.member_group.specs.Refusal.{IsAnswer, clear_filter_causes, first_of, first_refusal, in_group, join_causes, lacks_member, member_causes, set_filter_causes}
use Rattle.member_group.proofs.ConfigLemmas.{group_of-gap}
use Rattle.member_group.proofs.ListLemmas.{element_at, find-nowhere, find-only_at}

-- ---- the three kinds of answer

pub refused_answer : {V : Type 0} (first : Option Refusal) (value : V) (refusal : Refusal) → first ≡ Some refusal → IsAnswer first value (Err refusal)
refused_answer (Some other) value refusal is = cc
refused_answer None value refusal is = cc

pub memory_answer : {V : Type 0} (first : Option Refusal) (value : V) (result : Result V Refusal) → first ≡ None → IsErrAnd result (λ refusal. refusal ≡ OutOfMemory) → IsAnswer first value result
memory_answer (Some other) value result none told = cc
memory_answer None value (Err refusal) none told = told
memory_answer None value (Ok made) none told = absurd told

pub made_answer : {V : Type 0} (first : Option Refusal) (value made : V) → first ≡ None → made ≡ value → IsAnswer first value (Ok made)
made_answer (Some other) value made none is = cc
made_answer None value made none is = is

-- ---- a result of which one case is known

pub on_err : {V E K : Type 0} (result : Result V E) → K → OnErr result K
on_err (Ok made) kept = tt
on_err (Err refusal) kept = kept

pub not_ok : {V E : Type 0} (K : Type 0) (result : Result V E) → IsErr result → OnOk result K
not_ok K (Ok made) is = cc
not_ok K (Err refusal) is = tt

-- ---- whether a member is there

pub lacks_nowhere : {P : Type 0} (id : ℕ) (group : GroupOf P) → IsNowhere (has_id id) group.members → lacks_member id group ≡ true
lacks_nowhere id group none = rw (find-nowhere (has_id id) group.members none) refl

pub lacks_only_at : {P : Type 0} (id : ℕ) (group : GroupOf P) (at : ℕ) → IsOnlyAt (has_id id) group.members at → lacks_member id group ≡ false
lacks_only_at id group at only =
    let member = element_at group.members at only.inside in
    rw (find-only_at (has_id id) group.members at member.0 member.1 only) refl

pub has_member : {P : Type 0} (id : ℕ) (group : GroupOf P) (at : ℕ) → IsOnlyAt (has_id id) group.members at → first_of (member_causes id group) ≡ None
has_member id group at only = rw (lacks_only_at id group at only) refl

pub no_member : {P : Type 0} (id : ℕ) (group : GroupOf P) → IsNowhere (has_id id) group.members → first_of (member_causes id group) ≡ Some NoMember
no_member id group none = rw (lacks_nowhere id group none) refl

pub exists_only_at : {P : Type 0} (id : ℕ) (group : GroupOf P) (at : ℕ) → IsOnlyAt (has_id id) group.members at → is_some (member_of id group) ≡ true
exists_only_at id group at only =
    let member = element_at group.members at only.inside in
    rw (find-only_at (has_id id) group.members at member.0 member.1 only) refl

pub exists_nowhere : {P : Type 0} (id : ℕ) (group : GroupOf P) → IsNowhere (has_id id) group.members → is_some (member_of id group) ≡ false
exists_nowhere id group none = rw (find-nowhere (has_id id) group.members none) refl

pub join_refused : {P : Type 0} (id : ℕ) (group : GroupOf P) (at : ℕ) → IsOnlyAt (has_id id) group.members at → first_of (join_causes id group) ≡ Some MemberExists
join_refused id group at only = rw (exists_only_at id group at only) refl

pub join_full : {P : Type 0} (id : ℕ) (group : GroupOf P) → IsNowhere (has_id id) group.members → MEMBER_LIMIT ≤ length group.members → first_of (join_causes id group) ≡ Some GroupFull
join_full id group none full = rw (exists_nowhere id group none, le-leb MEMBER_LIMIT (length group.members) full) refl

pub joins : {P : Type 0} (id : ℕ) (group : GroupOf P) → IsNowhere (has_id id) group.members → length group.members < MEMBER_LIMIT → first_of (join_causes id group) ≡ None
joins id group none room = rw (exists_nowhere id group none, lt-leb MEMBER_LIMIT (length group.members) room) refl

-- ---- whether a member is locked, and a filter is there

module _ {P : Type 0} (id : ℕ) (group : GroupOf P) (at : ℕ) (member : Member P) (only : IsOnlyAt (has_id id) group.members at) (is : member ≡ get_or group.members at member) where
  pub sets_filter : member.locked ≡ false → first_of (set_filter_causes id group) ≡ None
  sets_filter free = rw (find-only_at (has_id id) group.members at member is only, free) refl

  pub set_filter_locked : member.locked ≡ true → first_of (set_filter_causes id group) ≡ Some Locked
  set_filter_locked locked = rw (find-only_at (has_id id) group.members at member is only, locked) refl

  pub clears_filter : member.locked ≡ false → is_none member.filter ≡ false → first_of (clear_filter_causes id group) ≡ None
  clears_filter free some = rw (find-only_at (has_id id) group.members at member is only, free, some) refl

  pub clear_filter_locked : member.locked ≡ true → first_of (clear_filter_causes id group) ≡ Some Locked
  clear_filter_locked locked = rw (find-only_at (has_id id) group.members at member is only, locked) refl

  pub clear_filter_without : member.locked ≡ false → is_none member.filter ≡ true → first_of (clear_filter_causes id group) ≡ Some NoProgram
  clear_filter_without free none = rw (find-only_at (has_id id) group.members at member is only, free, none) refl

pub set_filter_refused : {P : Type 0} (id : ℕ) (group : GroupOf P) → IsNowhere (has_id id) group.members → first_of (set_filter_causes id group) ≡ Some NoMember
set_filter_refused id group none = rw (find-nowhere (has_id id) group.members none) refl

pub clear_filter_refused : {P : Type 0} (id : ℕ) (group : GroupOf P) → IsNowhere (has_id id) group.members → first_of (clear_filter_causes id group) ≡ Some NoMember
clear_filter_refused id group none = rw (find-nowhere (has_id id) group.members none) refl

-- ---- answers of a group, passed on

pub made_without_refusal : {V : Type 0} (first : Option Refusal) (value made : V) → IsAnswer first value (Ok made) → first ≡ None
made_without_refusal (Some refusal) value made answer = cc
made_without_refusal None value made answer = refl

pub made_value : {V : Type 0} (first : Option Refusal) (value made : V) → IsAnswer first value (Ok made) → made ≡ value
made_value (Some refusal) value made answer = cc
made_value None value made answer = answer

passed_on : {V W : Type 0} (first : Option Refusal) (value : V) (other : W) (refusal : Refusal) (result : Result W Refusal) → IsAnswer first value (Err refusal) → IsErrAnd result (λ passed. passed ≡ refusal) → IsAnswer first other result
passed_on first value other refusal (Ok made) answer told = absurd told
passed_on None value other refusal (Err passed) answer told = told ∙ answer
passed_on {V} (Some least) value other refusal (Err passed) answer told =
    let same : refusal ≡ least = cc in
    ap (λ cause. Err cause) (told ∙ same)

pub no_group : {P W : Type 0} (causes : GroupOf P → List (Bool × Refusal)) (found : Option (GroupOf P)) (value : W) (refusal : Refusal) (result : Result W Refusal) → (refusal ≡ NoGroup) × (found ≡ None) → IsErrAnd result (λ passed. passed ≡ refusal) → IsAnswer (in_group causes found) value result
no_group causes found value refusal (Ok made) absent told = absurd told
no_group causes found value refusal (Err passed) absent told = rw absent.1 (ap (λ cause. Err cause) (told ∙ absent.0))

pub group_refused : {P W : Type 0} (causes : GroupOf P → List (Bool × Refusal)) (change : GroupOf P → GroupOf P) (key : Endpoint) (config : List (GroupOf P)) (at : ℕ) (group : GroupOf P) (value : W) (refusal : Refusal) (result : Result W Refusal) → IsOnlyAt (has_key key) config at → group ≡ get_or config at group → IsAnswer (first_of (causes group)) (change group) (Err refusal) → IsErrAnd result (λ passed. passed ≡ refusal) → IsAnswer (in_group causes (group_of key config)) value result
group_refused causes change key config at group value refusal result only is answer told =
    rw (find-only_at (has_key key) config at group is only) (passed_on (first_of (causes group)) (change group) value refusal result answer told)

pub same_key : {P : Type 0} (first : Option Refusal) (value group changed : GroupOf P) (config : List (GroupOf P)) (at : ℕ) → at < length config → group ≡ get_or config at group → IsAnswer first value (Ok changed) → value.key ≡ group.key → (get_or config at changed).key ≡ changed.key
same_key {P} first value group changed config at inside is answer kept =
    ap (λ (other : GroupOf P). other.key) (sym (get_or_read config at group inside is changed))
    ∙ sym (ap (λ (other : GroupOf P). other.key) (made_value first value changed answer) ∙ kept)

-- ---- groups added and removed

pub add_refused : {P : Type 0} (key : Endpoint) (config : List (GroupOf P)) (at : ℕ) → IsOnlyAt (has_key key) config at → first_refusal (AddGroup key) config ≡ Some GroupExists
add_refused key config at only =
    let group = element_at config at only.inside in
    rw (find-only_at (has_key key) config at group.0 group.1 only) refl

pub add_full : {P : Type 0} (key : Endpoint) (config : List (GroupOf P)) (at : ℕ) → IsGapFor key config at → GROUP_LIMIT ≤ length config → first_refusal (AddGroup key) config ≡ Some TooManyGroups
add_full key config at gap full = rw (group_of-gap key config at gap, le-leb GROUP_LIMIT (length config) full) refl

pub adds : {P : Type 0} (key : Endpoint) (config : List (GroupOf P)) (at : ℕ) → IsGapFor key config at → length config < GROUP_LIMIT → first_refusal (AddGroup key) config ≡ None
adds key config at gap room = rw (group_of-gap key config at gap, lt-leb GROUP_LIMIT (length config) room) refl

pub removes : {P : Type 0} (key : Endpoint) (config : List (GroupOf P)) (at : ℕ) → IsOnlyAt (has_key key) config at → first_refusal (RemoveGroup key) config ≡ None
removes key config at only =
    let group = element_at config at only.inside in
    rw (find-only_at (has_key key) config at group.0 group.1 only) refl
