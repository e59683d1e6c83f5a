-- What a configuration makes of a packet does not look into its programs: it is the same over programs that answer it the same.
use Rattle.std.proofs.Common.{◌≡◌, ◌∙◌, ◌∷◌, List, None, Option, Some, [], ap, get_or, length, map, refl, suc, zero, ℕ}
use Rattle.std.specs.Option.{option_map}
use Rattle.std.proofs.lemmas.List.{length-map}
use Rattle.ipv4_fields.specs.declared.endpoint.Endpoint.{Endpoint}
use Rattle.ipv4_fields.specs.declared.endpoint.Flow.{Flow}
use Rattle.ipv4_fields.specs.Dispatchable.{flow_of}
use Rattle.member_group.specs.declared.member.Member.{Member}
use Rattle.member_group.specs.Group.{GroupOf, group_of}
use Rattle.member_group.proofs.OverLemmas.{group-over}
use Rattle.member_group.specs.Over.{config_over, group_over, member_over}
use Rattle.packet_verdict.specs.Verdict.{choice, flow_verdict, group_verdict, kept, member_verdict, members_verdict, verdict}

module _ {P Q : Type 0} (over : P → Q) (f : Q → List ℕ → ℕ) (g : P → List ℕ → ℕ) (packet : List ℕ) (same : (program : P) → f (over program) packet ≡ g program packet) where
  answer-over : (program : Option P) → option_map (λ q. f q packet) (option_map over program) ≡ option_map (λ p. g p packet) program
  answer-over None = refl
  answer-over (Some program) = ap Some (same program)

  member_verdict-over : (key : Endpoint) (member : Member P) → member_verdict f key packet (member_over over member) ≡ member_verdict g key packet member
  member_verdict-over key member = ap (λ answer. kept key member.id member.to answer (length packet)) (answer-over member.filter)

  get_or-over : (members : List (Member P)) (index : ℕ) (other : Member P) → get_or (map (member_over over) members) index (member_over over other) ≡ member_over over (get_or members index other)
  get_or-over [] index other = refl
  get_or-over (member ∷ rest) zero other = refl
  get_or-over (member ∷ rest) (suc index) other = get_or-over rest index other

  members_verdict-over : (flow : Flow) (selector : Option P) (members : List (Member P))
      → members_verdict f flow packet (option_map over selector) (map (member_over over) members) ≡ members_verdict g flow packet selector members
  members_verdict-over flow selector [] = refl
  members_verdict-over flow selector (first ∷ rest) =
      let members : List (Member Q) = map (member_over over) (first ∷ rest) in
      ap (λ answer. member_verdict f flow.destination packet (get_or members (choice answer flow (length members)) (member_over over first))) (answer-over selector)
      ∙ ap (λ count. member_verdict f flow.destination packet (get_or members (choice (option_map (λ p. g p packet) selector) flow count) (member_over over first))) (length-map (first ∷ rest) (member_over over))
      ∙ ap (member_verdict f flow.destination packet) (get_or-over (first ∷ rest) (choice (option_map (λ p. g p packet) selector) flow (length (first ∷ rest))) first)
      ∙ member_verdict-over flow.destination (get_or (first ∷ rest) (choice (option_map (λ p. g p packet) selector) flow (length (first ∷ rest))) first)

  group_verdict-over : (flow : Flow) (group : Option (GroupOf P)) → group_verdict f flow packet (option_map (group_over over) group) ≡ group_verdict g flow packet group
  group_verdict-over flow None = refl
  group_verdict-over flow (Some group) = members_verdict-over flow group.selector group.members

  flow_verdict-over : (config : List (GroupOf P)) (flow : Option Flow) → flow_verdict f (config_over over config) packet flow ≡ flow_verdict g config packet flow
  flow_verdict-over config None = refl
  flow_verdict-over config (Some flow) = ap (group_verdict f flow packet) (group-over over flow.destination config) ∙ group_verdict-over flow (group_of flow.destination config)

  pub verdict-over : (config : List (GroupOf P)) → verdict f (config_over over config) packet ≡ verdict g config packet
  verdict-over config = flow_verdict-over config (flow_of packet)
