-- The programs of a configuration are programs, and what is found in its image is told again after a read.
use Rattle.std.proofs.Common.{◌≡◌, ◌<◌, ◌∙◌, ◌∷◌, List, Option, Some, [], ap, arith, length, option_map, refl, slice_get, suc, sym, subst, zero, ℕ}
use Rattle.std.proofs.lemmas.Option.{get_or_from_slice_get, slice_get_within}
use Rattle.std.specs.Prelude.{IfSome}
use Rattle.bpf_verify.specs.Program.{IsProgram, ProgramValue}
use Rattle.config_image.specs.Image.{Group}
use Rattle.config_image.specs.declared.lookup.MemberEntry.{MemberEntry}
use Rattle.config_image.specs.Lookup.{BeginsWithImage, HasGroup, HasMember, IsMemberFound}
use Rattle.config_image.proofs.LookupLemmas.{item_at}
use Rattle.ipv4_fields.specs.declared.endpoint.Endpoint.{Endpoint}
use Rattle.ipv4_fields.specs.declared.endpoint.Flow.{Flow}
use Rattle.ipv4_fields.specs.Dispatchable.{flow_of}
use Rattle.member_group.specs.declared.member.Member.{Member}
use Rattle.member_group.specs.Group.{IsConfig, IsGroup, IsMember, group_of}
use Rattle.packet_verdict.specs.declared.verdict.Verdict.{Verdict}
use Rattle.packet_verdict.specs.declared.verdict.Verdict.TheVariants.{NoMembers}
use Rattle.bpf_machine.specs.Meaning.{IsSound}
use Rattle.bpf_machine.proofs.SafeLemmas.{is_sound}
use Rattle.packet_verdict.specs.Sound.{ProgramsAreSound}
use Rattle.packet_verdict.specs.Verdict.{choice, flow_verdict, group_verdict, kept, member_verdict, members_verdict, value_of, verdict}

pub selector_is_program : (config : List Group) (index : ℕ) (group : Group) → IsConfig config → HasGroup config index group → IfSome group.selector IsProgram
selector_is_program config index group is has = (item_at IsGroup config index group has is.groups).selector

pub filter_is_program : (config : List Group) (group index : ℕ) (member : Member ProgramValue) → IsConfig config → HasMember config group index member → IfSome member.filter IsProgram
filter_is_program config group index member is has =
    (item_at IsMember has.of.members index member has.member_at (item_at IsGroup config group has.of has.group_at is.groups).members).filter

pub begins_still : (config : List Group) (words words' : List ℕ) → words' ≡ words → BeginsWithImage words config → BeginsWithImage words' config
begins_still config words words' same begins = subst (λ (ws : List ℕ). BeginsWithImage ws config) (sym same) begins

pub chosen_alike : (answer other : Option ℕ) (flow : Flow) (count index : ℕ) → index ≡ choice answer flow count → answer ≡ other → index ≡ choice other flow count
chosen_alike answer other flow count index is same = is ∙ ap (λ a. choice a flow count) same

pub kept_alike : (key : Endpoint) (found : MemberEntry) (member : Member ProgramValue) (answer other : Option ℕ) (bytes : ℕ) (verdict : Verdict) →
    verdict ≡ kept key found.id found.to answer bytes → IsMemberFound member found → answer ≡ other → verdict ≡ kept key member.id member.to other bytes
kept_alike key found member answer other bytes verdict is entry same =
    is ∙ (ap (λ id. kept key id found.to answer bytes) entry.id
    ∙ (ap (λ to. kept key member.id to answer bytes) entry.to ∙ ap (λ a. kept key member.id member.to a bytes) same))

pub member_there : (members : List (Member ProgramValue)) (i : ℕ) → i < length members → (member : Member ProgramValue) × (slice_get members i ≡ Some member)
member_there [] i inside = absurd (omega arith)
member_there (member ∷ rest) zero inside = (member, refl)
member_there (member ∷ rest) (suc i) inside = member_there rest i (omega arith)

pub among_none : (flow : Flow) (packet : List ℕ) (selector : Option ProgramValue) (members : List (Member ProgramValue)) → length members ≡ 0
    → members_verdict value_of flow packet selector members ≡ NoMembers
among_none flow packet selector [] none = refl
among_none flow packet selector (member ∷ rest) none = absurd (omega arith)

pub among_some : (flow : Flow) (packet : List ℕ) (selector : Option ProgramValue) (members : List (Member ProgramValue)) (member : Member ProgramValue)
    → slice_get members (choice (option_map (λ s. value_of s packet) selector) flow (length members)) ≡ Some member
    → members_verdict value_of flow packet selector members ≡ member_verdict value_of flow.destination packet member
among_some flow packet selector [] member there = let inside = slice_get_within [] (choice (option_map (λ s. value_of s packet) selector) flow 0) member there in absurd (omega arith)
among_some flow packet selector (first ∷ rest) member there =
    ap (λ (m : Member ProgramValue). member_verdict value_of flow.destination packet m)
    (get_or_from_slice_get (first ∷ rest) (choice (option_map (λ s. value_of s packet) selector) flow (length (first ∷ rest))) member first there)

-- an accepted program is sound, and a configuration has no others
sound_if : (packet : List ℕ) (held : Option ProgramValue) (program : ProgramValue) → IfSome held IsProgram → held ≡ Some program → IsSound program.words packet
sound_if packet held program is same = is_sound program.words packet (subst (λ (o : Option ProgramValue). IfSome o IsProgram) same is).accepted

pub programs_are_sound : (config : List Group) (packet : List ℕ) → IsConfig config → ProgramsAreSound config packet
programs_are_sound config packet is = record {
  selectors = λ index group program has same. sound_if packet group.selector program (selector_is_program config index group is has) same;
  filters = λ group index member program has same. sound_if packet member.filter program (filter_is_program config group index member is has) same;
}

-- the verdict of a packet whose group is found
module _ (config : List Group) (packet : List ℕ) (flow : Flow) (group : Group) (from : flow_of packet ≡ Some flow) (found : group_of flow.destination config ≡ Some group) where
  abbrev pub chosen : ℕ
  chosen = choice (option_map (λ selector. value_of selector packet) group.selector) flow (length group.members)

  in_group : verdict value_of config packet ≡ members_verdict value_of flow packet group.selector group.members
  in_group = ap (λ some. flow_verdict value_of config packet some) from ∙ ap (λ some. group_verdict value_of flow packet some) found

  pub at_no_member : length group.members ≡ 0 → verdict value_of config packet ≡ NoMembers
  at_no_member none = in_group ∙ among_none flow packet group.selector group.members none

  pub at_member : (member : Member ProgramValue) → slice_get group.members chosen ≡ Some member
      → verdict value_of config packet ≡ kept flow.destination member.id member.to (option_map (λ filter. value_of filter packet) member.filter) (length packet)
  at_member member there = in_group ∙ among_some flow packet group.selector group.members member there
