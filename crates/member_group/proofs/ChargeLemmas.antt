-- The charge of a configuration, one group more, and of a group, one member more.
use Rattle.std.proofs.Common.{◌++◌, ◌+◌, ◌-◌, ◌<◌, ◌∙◌, ◌∷◌, ◌≡◌, ◌≤◌, List, None, Some, [], ap, append_assoc, arith, false, get_or, length, length-append, length-set, refl, set, sym, take, ℕ}
use Rattle.std.specs.Prelude.{IfSome, Option}
use Rattle.std.specs.List.{cons_option, filter_map, sum_by}
use Rattle.std.specs.Option.{option_to_list}
use Rattle.std.proofs.lemmas.List.{length-take-le, take_all, take_more}
use Rattle.std.proofs.lemmas.List.Elements.{filter_map-append}
use Rattle.std.proofs.lemmas.List.Sums.{sum_by-append, sum_by-cons, sum_by-le, sum_by-swap_remove, sum_by_more, sum_by_push}
use Rattle.bpf_verify.specs.Program.{IsProgram, ProgramValue}
use Rattle.bpf_verify.specs.declared.TheConstants.{MAX_INSTRUCTIONS}
use Rattle.ipv4_fields.specs.declared.endpoint.Endpoint.{Endpoint}
use Rattle.member_group.specs.declared.TheConstants.{MEMBER_WORDS}
use Rattle.member_group.specs.declared.member.Member.{Member}
use Rattle.member_group.specs.Charge.{charge_of_group, members_of, programs_of_group}
use Rattle.member_group.specs.Command.{joined}
use Rattle.member_group.specs.Group.{GroupOf, IsGroup}
use Rattle.member_group.specs.Place.{last_in_gap}
use Rattle.member_group.specs.body.Counted.{IsCounted}
use Rattle.member_group.proofs.ListLemmas.{swap_remove-is}

one_or_none : {X : Type 0} (o : Option X) → cons_option o [] ≡ option_to_list o
one_or_none None = refl
one_or_none (Some x) = refl

-- a group with the first n of its members
abbrev pub first_members : ℕ → GroupOf ProgramValue → GroupOf ProgramValue
first_members n group = record { key = group.key; selector = group.selector; members = take n group.members }

-- what its programs come to by any measure, with one member more
pub sum_of_group-more : (measure : ProgramValue → ℕ) (group : GroupOf ProgramValue) (i : ℕ) (d : Member ProgramValue) → i < length group.members
    → sum_by measure (programs_of_group (first_members (i + 1) group)) ≡ sum_by measure (programs_of_group (first_members i group)) + sum_by measure (option_to_list (get_or group.members i d).filter)
sum_of_group-more measure group i d inside =
    let members = group.members in
    let member = get_or members i d in
    let filters : filter_map (λ (m : Member ProgramValue). m.filter) (take (i + 1) members) ≡ filter_map (λ (m : Member ProgramValue). m.filter) (take i members) ++ option_to_list member.filter =
    ap (filter_map (λ (m : Member ProgramValue). m.filter)) (take_more members i d inside)
    ∙ filter_map-append (λ (m : Member ProgramValue). m.filter) (take i members) (member ∷ [])
    ∙ ap (λ last. filter_map (λ (m : Member ProgramValue). m.filter) (take i members) ++ last) (one_or_none member.filter) in
    let programs : programs_of_group (first_members (i + 1) group) ≡ programs_of_group (first_members i group) ++ option_to_list member.filter =
    ap (λ rest. option_to_list group.selector ++ rest) filters ∙ sym (append_assoc (option_to_list group.selector) (filter_map (λ (m : Member ProgramValue). m.filter) (take i members)) (option_to_list member.filter)) in
    ap (sum_by measure) programs ∙ sum_by-append measure (programs_of_group (first_members i group)) (option_to_list member.filter)

pub sum_of_group-all : (measure : ProgramValue → ℕ) (group : GroupOf ProgramValue) (i : ℕ) → length group.members ≤ i
    → sum_by measure (programs_of_group (first_members i group)) ≡ sum_by measure (programs_of_group group)
sum_of_group-all measure group i all =
    ap (λ (members : List (Member ProgramValue)). sum_by measure (programs_of_group (record { key = group.key; selector = group.selector; members = members }))) (take_all i group.members all)

pub charge_of_group-more : (group : GroupOf ProgramValue) (i : ℕ) (d : Member ProgramValue) → i < length group.members → charge_of_group (first_members (i + 1) group) ≡ charge_of_group (first_members i group) + (MEMBER_WORDS + sum_by (λ program. program.charge) (option_to_list (get_or group.members i d).filter))
charge_of_group-more group i d inside =
    let before = length-take-le i group.members (omega arith) in
    let behind = length-take-le (i + 1) group.members (omega arith) in
    let charges = sum_of_group-more (λ (program : ProgramValue). program.charge) group i d inside in
    omega arith

pub charge_of_group-all : (group : GroupOf ProgramValue) (i : ℕ) → length group.members ≤ i → charge_of_group (first_members i group) ≡ charge_of_group group
charge_of_group-all group i all =
    ap (λ (members : List (Member ProgramValue)). charge_of_group (record { key = group.key; selector = group.selector; members = members })) (take_all i group.members all)

pub members_of-more : (config : List (GroupOf ProgramValue)) (i : ℕ) (d : GroupOf ProgramValue) → i < length config → members_of (take (i + 1) config) ≡ members_of (take i config) + length (get_or config i d).members
members_of-more config i d inside = sum_by_more (λ (group : GroupOf ProgramValue). length group.members) config i d inside

-- ---- what its programs come to, member by member

one_first : {X : Type 0} (o : Option X) (rest : List X) → cons_option o rest ≡ option_to_list o ++ rest
one_first None rest = refl
one_first (Some x) rest = refl

abbrev of_member : (ProgramValue → ℕ) → Member ProgramValue → ℕ
of_member measure member = sum_by measure (option_to_list member.filter)

by_members : (measure : ProgramValue → ℕ) (members : List (Member ProgramValue)) → sum_by measure (filter_map (λ member. member.filter) members) ≡ sum_by (of_member measure) members
by_members measure [] = refl
by_members measure (member ∷ rest) =
    let filters : List ProgramValue = filter_map (λ (m : Member ProgramValue). m.filter) rest in
    ap (sum_by measure) (one_first member.filter filters)
    ∙ sum_by-append measure (option_to_list member.filter) filters
    ∙ ap (λ n. of_member measure member + n) (by_members measure rest)
    ∙ sym (sum_by-cons (of_member measure) member rest)

sum_of_group : (measure : ProgramValue → ℕ) (group : GroupOf ProgramValue) → sum_by measure (programs_of_group group) ≡ sum_by measure (option_to_list group.selector) + sum_by (of_member measure) group.members
sum_of_group measure group =
    sum_by-append measure (option_to_list group.selector) (filter_map (λ (m : Member ProgramValue). m.filter) group.members)
    ∙ ap (λ n. sum_by measure (option_to_list group.selector) + n) (by_members measure group.members)

-- ---- a member without a filter joins

sum_of_group-joined : (measure : ProgramValue → ℕ) (id : ℕ) (to : Endpoint) (group : GroupOf ProgramValue) → sum_by measure (programs_of_group (joined id to group)) ≡ sum_by measure (programs_of_group group)
sum_of_group-joined measure id to group =
    let new : Member ProgramValue = record { id = id; to = to; filter = None; locked = false } in
    let nothing : of_member measure new ≡ 0 = refl in
    omega (arith, sum_of_group measure (joined id to group), sum_of_group measure group, sum_by_push (of_member measure) group.members new)

-- no more than what so many members with the longest programs are charged
charge_limited : (group : GroupOf ProgramValue) → IsGroup group → charge_of_group group ≤ 300000
charge_limited group is_group =
    let selector = charge_of_one group.selector is_group.selector in
    let few = is_group.limited in
    let members = sum_by-le (of_member (λ program. program.charge)) MAX_INSTRUCTIONS group.members (λ k d below. charge_of_one (get_or group.members k d).filter (is_group.members k d below).filter) in
    let whole = sum_of_group (λ program. program.charge) group in
    omega arith
  where
    charge_of_one : (o : Option ProgramValue) → IfSome o IsProgram → sum_by (λ program. program.charge) (option_to_list o) ≤ MAX_INSTRUCTIONS
    charge_of_one None none = omega arith
    charge_of_one (Some program) is = let limited = is.limited in omega arith

pub IsCounted-joined : (id : ℕ) (to : Endpoint) (group : GroupOf ProgramValue) (charge words : ℕ) → IsGroup group → IsCounted group charge words → IsCounted (joined id to group) (charge + MEMBER_WORDS) words
IsCounted-joined id to group charge words is_group counted =
    let new : Member ProgramValue = record { id = id; to = to; filter = None; locked = false } in
    let charged = counted.charged in
    let limit = charge_limited group is_group in
    record {
      charged = omega (arith, sum_of_group-joined (λ program. program.charge) id to group, length-append group.members (new ∷ []));
      charge_limited = omega arith;
      counted = counted.counted ∙ sym (sum_of_group-joined (λ program. length program.words) id to group);
      words_limited = counted.words_limited;
    }

-- ---- a member leaves, and the last one takes its place

abbrev pub without_at : ℕ → GroupOf ProgramValue → GroupOf ProgramValue
without_at at group = record { key = group.key; selector = group.selector; members = last_in_gap at group.members }

sum_of_group-left : (measure : ProgramValue → ℕ) (group : GroupOf ProgramValue) (at : ℕ) (member : Member ProgramValue) → at < length group.members → member ≡ get_or group.members at member
    → sum_by measure (programs_of_group (without_at at group)) + of_member measure member ≡ sum_by measure (programs_of_group group)
sum_of_group-left measure group at member inside is =
    omega (
      arith,
      sum_of_group measure (without_at at group),
      sum_of_group measure group,
      ap (sum_by (of_member measure)) (swap_remove-is group.members at member inside),
      ap (of_member measure) is,
      sum_by-swap_remove (of_member measure) group.members at member inside,
    )

pub length-last_in_gap : {X : Type 0} (at : ℕ) (xs : List X) (d : X) → at < length xs → length (last_in_gap at xs) + 1 ≡ length xs
length-last_in_gap at xs d inside =
    let last = length xs - 1 in
    let size = length-set xs at (get_or xs last d) in
    omega (arith, ap length (swap_remove-is xs at d inside), length-take-le last (set xs at (get_or xs last d)) (omega arith))

module _ (group : GroupOf ProgramValue) (charge words : ℕ) (counted : IsCounted group charge words) (at : ℕ) (member : Member ProgramValue) (inside : at < length group.members) (is : member ≡ get_or group.members at member) (gone : ℕ) where
  pub charge_of_left : gone ≡ sum_by (λ program. program.charge) (option_to_list member.filter) → charge_of_group (without_at at group) + (MEMBER_WORDS + gone) ≡ charge
  charge_of_left is_gone =
      let charged = counted.charged in
      omega (arith, sum_of_group-left (λ program. program.charge) group at member inside is, length-last_in_gap at group.members member inside)

  pub words_of_left : gone ≡ sum_by (λ program. length program.words) (option_to_list member.filter) → sum_by (λ program. length program.words) (programs_of_group (without_at at group)) + gone ≡ words
  words_of_left is_gone =
      let all = counted.counted in
      omega (arith, sum_of_group-left (λ program. length program.words) group at member inside is)

pub IsCounted-left : (group : GroupOf ProgramValue) (charge words : ℕ) → IsCounted group charge words → (at : ℕ) (member : Member ProgramValue) → at < length group.members → member ≡ get_or group.members at member
    → (less fewer : ℕ) → less ≡ sum_by (λ program. program.charge) (option_to_list member.filter) → fewer ≡ sum_by (λ program. length program.words) (option_to_list member.filter)
    → IsCounted (without_at at group) (charge - (MEMBER_WORDS + less)) (words - fewer)
IsCounted-left group charge words counted at member inside is less fewer is_less is_fewer =
    let one = charge_of_left group charge words counted at member inside is less is_less in
    let other = words_of_left group charge words counted at member inside is fewer is_fewer in
    let limit = counted.charge_limited in
    let limit_too = counted.words_limited in
    record { charged = omega arith; charge_limited = omega arith; counted = omega arith; words_limited = omega arith }
