-- The verdict of a configuration on a packet (docs/SWITCH.md, "Verdicts"). Its programs may be of any kind whose result on a
-- packet is known.
use Rattle.std.specs.Prelude.{◌==◌, ◌+◌, ◌*◌, ◌%◌, ◌∷◌, if◌then◌else◌, List, None, Option, Some, [], bit_xor, get_or, length, min, nat_lt, option_map, ℕ}
use Rattle.bpf_machine.specs.Meaning.{Ending, Ret, Stuck, ending_of}
use Rattle.bpf_verify.specs.Program.{ProgramValue}
use Rattle.ipv4_fields.specs.declared.endpoint.Endpoint.{Endpoint}
use Rattle.ipv4_fields.specs.declared.endpoint.Flow.{Flow}
use Rattle.ipv4_fields.specs.Dispatchable.{flow_of}
use Rattle.member_group.specs.declared.member.Member.{Member}
use Rattle.member_group.specs.Group.{GroupOf, group_of}
use Rattle.packet_verdict.specs.declared.verdict.Verdict.{Verdict}
use Rattle.packet_verdict.specs.declared.verdict.Verdict.TheVariants.{Deliver, Dropped, Malformed, NoGroup, NoMembers}

-- the number that a run returns; an accepted program is never stuck
abbrev pub returned : Ending → ℕ
returned (Ret number) = number
returned Stuck = 0

-- the result of an accepted program on a packet
abbrev pub value_of : ProgramValue → List ℕ → ℕ
value_of program packet = returned (ending_of program.words packet)

-- if no selector decides: the exclusive or of both addresses and of both ports, the source's above, modulo the number of members
abbrev pub plain_choice : Flow → ℕ → ℕ
plain_choice flow count =
    bit_xor (bit_xor flow.source.address flow.destination.address) (flow.source.port * 65536 + flow.destination.port) % count

-- the index of a member: the selector's result, if it is an index of a member, otherwise the plain choice
abbrev pub choice : Option ℕ → Flow → ℕ → ℕ
choice None flow count = plain_choice flow count
choice (Some answer) flow count = if nat_lt answer count then answer else plain_choice flow count

-- the verdict of a member on a packet of this many bytes: its filter keeps the first bytes, or none
abbrev pub kept : Endpoint → ℕ → Endpoint → Option ℕ → ℕ → Verdict
kept key id to None bytes = Deliver key id to bytes
kept key id to (Some answer) bytes = if answer == 0 then Dropped key id else Deliver key id to (min answer bytes)

module _ {P : Type 0} (answers : P → List ℕ → ℕ) where
  -- at a member of a group
  abbrev pub member_verdict : Endpoint → List ℕ → Member P → Verdict
  member_verdict key packet member =
      kept key member.id member.to (option_map (λ filter. answers filter packet) member.filter) (length packet)

  -- among the members of a group, if it has any: the selector, if there is one, chooses the member
  abbrev pub members_verdict : Flow → List ℕ → Option P → List (Member P) → Verdict
  members_verdict flow packet selector [] = NoMembers
  members_verdict flow packet selector (first ∷ rest) =
      member_verdict flow.destination packet
      (get_or (first ∷ rest) (choice (option_map (λ program. answers program packet) selector) flow (length (first ∷ rest))) first)

  -- in a group, if there is one
  abbrev pub group_verdict : Flow → List ℕ → Option (GroupOf P) → Verdict
  group_verdict flow packet None = NoGroup
  group_verdict flow packet (Some group) = members_verdict flow packet group.selector group.members

  -- of a packet that goes from one endpoint to another, if it is one whole datagram
  abbrev pub flow_verdict : List (GroupOf P) → List ℕ → Option Flow → Verdict
  flow_verdict config packet None = Malformed
  flow_verdict config packet (Some flow) = group_verdict flow packet (group_of flow.destination config)

  abbrev pub verdict : List (GroupOf P) → List ℕ → Verdict
  verdict config packet = flow_verdict config packet (flow_of packet)
