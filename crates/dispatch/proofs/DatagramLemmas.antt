-- A verdict keeps no more bytes than the packet has, and what is known of a result under one of its cases.
use Rattle.std.proofs.Common.{◌==◌, ◌≡◌, ◌∷◌, Err, List, None, Ok, OnErr, OnOk, Option, Result, Some, [], arith, false, get_or, if◌then◌else◌, length, min, option_map, subst, sym, true, ℕ}
use Rattle.config_image.specs.Image.{Group}
use Rattle.bpf_verify.specs.Program.{ProgramValue}
use Rattle.ipv4_fields.specs.declared.endpoint.Endpoint.{Endpoint}
use Rattle.ipv4_fields.specs.declared.endpoint.Flow.{Flow}
use Rattle.ipv4_fields.specs.Dispatchable.{flow_of}
use Rattle.member_group.specs.declared.member.Member.{Member}
use Rattle.member_group.specs.Group.{group_of}
use Rattle.packet_verdict.specs.declared.verdict.Verdict.{Verdict}
use Rattle.packet_verdict.specs.declared.verdict.Verdict.TheVariants.{Deliver, Dropped}
use Rattle.dispatch.specs.body.Datagram.{KeepsNoMore}
use Rattle.packet_verdict.specs.Verdict.{choice, flow_verdict, group_verdict, kept, member_verdict, members_verdict, value_of, verdict}

kept_no_more : (key : Endpoint) (id : ℕ) (to : Endpoint) (answer : Option ℕ) (packet : List ℕ) → KeepsNoMore (kept key id to answer (length packet)) packet
kept_no_more key id to None packet = omega arith
kept_no_more key id to (Some answer) packet =
    elim (answer == 0) as (λ b. KeepsNoMore (if b then Dropped key id else Deliver key id to (min answer (length packet))) packet) [ true ↦ tt | false ↦ omega arith ]

at_member : (key : Endpoint) (packet : List ℕ) (member : Member ProgramValue) → KeepsNoMore (member_verdict value_of key packet member) packet
at_member key packet member = kept_no_more key member.id member.to (option_map (λ filter. value_of filter packet) member.filter) packet

among : (flow : Flow) (packet : List ℕ) (selector : Option ProgramValue) (members : List (Member ProgramValue)) → KeepsNoMore (members_verdict value_of flow packet selector members) packet
among flow packet selector [] = tt
among flow packet selector (first ∷ rest) =
    at_member flow.destination packet (get_or (first ∷ rest) (choice (option_map (λ program. value_of program packet) selector) flow (length (first ∷ rest))) first)

in_group : (flow : Flow) (packet : List ℕ) (group : Option Group) → KeepsNoMore (group_verdict value_of flow packet group) packet
in_group flow packet None = tt
in_group flow packet (Some group) = among flow packet group.selector group.members

in_flow : (config : List Group) (packet : List ℕ) (flow : Option Flow) → KeepsNoMore (flow_verdict value_of config packet flow) packet
in_flow config packet None = tt
in_flow config packet (Some flow) = in_group flow packet (group_of flow.destination config)

pub keeps_no_more : (config : List Group) (packet : List ℕ) (given : Verdict) → given ≡ verdict value_of config packet → KeepsNoMore given packet
keeps_no_more config packet given is = subst (λ (v : Verdict). KeepsNoMore v packet) (sym is) (in_flow config packet (flow_of packet))

module _ {A E : Type 0} where
  pub on_err : (answer : Result A E) {P : Type 0} → P → OnErr answer P
  on_err (Ok value) p = tt
  on_err (Err fault) p = p

  pub on_err_too : (answer : Result A E) {P Q : Type 0} → OnErr answer P → (P → Q) → OnErr answer Q
  on_err_too (Ok value) p f = tt
  on_err_too (Err fault) p f = f p

  pub on_ok_too : (answer : Result A E) {P Q : Type 0} → OnOk answer P → (P → Q) → OnOk answer Q
  on_ok_too (Ok value) p f = f p
  on_ok_too (Err fault) p f = tt
