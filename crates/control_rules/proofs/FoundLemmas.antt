-- What is found in a configuration, and that its programs are programs.
use Rattle.std.proofs.Common.{◌≡◌, ◌∙◌, ◌<◌, ◌∷◌, Bool, List, None, Option, Some, [], ap, arith, get_or, inl, inr, length, refl, subst, suc, zero, ℕ}
use Rattle.std.specs.Prelude.{IfSome, option_and_then, slice_get}
use Rattle.std.specs.List.{All, find}
use Rattle.std.proofs.lemmas.Bool.{cases_Bool, eq-eqb, ne_eqb}
use Rattle.member_group.proofs.ListLemmas.{find-first}
use Rattle.ipv4_fields.specs.Endpoint.{endpoint_number}
use Rattle.std.proofs.lemmas.List.Elements.{All-head, All-tail}
use Rattle.ipv4_fields.specs.declared.endpoint.Endpoint.{Endpoint}
use Rattle.bpf_verify.specs.Program.{IsProgram, ProgramValue}
use Rattle.config_image.specs.Image.{Group}
use Rattle.member_group.specs.Group.{IsConfig, IsGroup, IsMember, group_of, has_id, has_key, member_of}
use Rattle.member_group.specs.declared.member.Member.{Member}
use Rattle.control_rules.specs.Shown.{program_at}

module _ {X : Type 0} (P : X → Type 0) where
  pub all_got : (xs : List X) (i : ℕ) (x : X) → All P xs → slice_get xs i ≡ Some x → P x
  all_got [] i x all got = cc
  all_got (y ∷ ys) zero x all got = let same : y ≡ x = cc in subst P same (All-head P y ys all)
  all_got (y ∷ ys) (suc i) x all got = all_got ys i x (All-tail P y ys all) got

  pub all_found : (test : X → Bool) (xs : List X) (x : X) → All P xs → find test xs ≡ Some x → P x
  all_found test [] x all found = cc
  all_found test (y ∷ ys) x all found = elim (cases_Bool (test y)) [
    | inl passes ↦ let same : Some y ≡ Some x = rw passes at found in let is : y ≡ x = cc in subst P is (All-head P y ys all)
    | inr fails ↦ all_found test ys x (All-tail P y ys all) (rw fails at found)
  ]

pub some_holds : {X : Type 0} (P : X → Type 0) (option : Option X) (x : X) → IfSome option P → option ≡ Some x → P x
some_holds P None x holds is = cc
some_holds P (Some y) x holds is = let same : y ≡ x = cc in subst P same holds

module _ (config : List Group) (is : IsConfig config) where
  pub group_at_is : (index : ℕ) (group : Group) → slice_get config index ≡ Some group → IsGroup group
  group_at_is index group at = all_got IsGroup config index group is.groups at

  pub group_is : (key : Endpoint) (group : Group) → group_of key config ≡ Some group → IsGroup group
  group_is key group found = all_found IsGroup (has_key key) config group is.groups found

  pub program_is : (key : Endpoint) (owner : Option ℕ) (program : ProgramValue) → program_at key owner config ≡ Some program → IsProgram program
  program_is key None program found = by_group (group_of key config) refl found
    where
      by_group : (one : Option Group) → group_of key config ≡ one → option_and_then (λ group. group.selector) one ≡ Some program → IsProgram program
      by_group None at is = cc
      by_group (Some group) at is = some_holds IsProgram group.selector program (group_is key group at).selector is
  program_is key (Some id) program found = by_group (group_of key config) refl found
    where
      by_member : (group : Group) → IsGroup group → (one : Option (Member ProgramValue)) → member_of id group ≡ one →
          option_and_then (λ member. member.filter) one ≡ Some program → IsProgram program
      by_member group of None at is = cc
      by_member group of (Some member) at is =
          some_holds IsProgram member.filter program (all_found IsMember (has_id id) group.members member of.members at).filter is

      by_group : (one : Option Group) → group_of key config ≡ one →
          option_and_then (λ group. option_and_then (λ member. member.filter) (member_of id group)) one ≡ Some program → IsProgram program
      by_group None at is = cc
      by_group (Some group) at is = by_member group (group_is key group at) (member_of id group) refl is

-- ---- what is at a place is found there

at_place : {X : Type 0} (xs : List X) (i : ℕ) (x : X) → slice_get xs i ≡ Some x → (i < length xs) × (x ≡ get_or xs i x)
at_place [] i x got = cc
at_place (y ∷ ys) zero x got = (omega arith, cc)
at_place (y ∷ ys) (suc i) x got = let it = at_place ys i x got in (omega (arith, it.0), it.1)

get_or_any : {X : Type 0} (xs : List X) (i : ℕ) (one other : X) → i < length xs → get_or xs i one ≡ get_or xs i other
get_or_any [] i one other inside = absurd (omega arith)
get_or_any (x ∷ xs) zero one other inside = refl
get_or_any (x ∷ xs) (suc i) one other inside = get_or_any xs i one other (omega arith)

pub group_at_found : (config : List Group) → IsConfig config → (index : ℕ) (group : Group) → slice_get config index ≡ Some group → group_of group.key config ≡ Some group
group_at_found config is index group at =
    let (inside, same) = at_place config index group at in
    find-first (has_key group.key) config index group inside same (eq-eqb (endpoint_number group.key) (endpoint_number group.key) refl)
    (λ k d before. ne_eqb (endpoint_number (get_or config k d).key) (endpoint_number group.key)
    (λ e. let less = is.rising k index d before inside in let here = ap (λ g. endpoint_number g.key) (same ∙ get_or_any config index group d inside) in omega arith))

pub member_at_found : (config : List Group) → IsConfig config → (key : Endpoint) (group : Group) (index : ℕ) (member : Member ProgramValue) →
    group_of key config ≡ Some group → slice_get group.members index ≡ Some member → member_of member.id group ≡ Some member
member_at_found config is key group index member found at =
    let (inside, same) = at_place group.members index member at in
    let of = group_is config is key group found in
    find-first (has_id member.id) group.members index member inside same (eq-eqb member.id member.id refl)
    (λ k d before. ne_eqb (get_or group.members k d).id member.id
    (λ e. of.distinct k index d before inside (e ∙ ap (λ m. m.id) (same ∙ get_or_any group.members index member d inside))))
