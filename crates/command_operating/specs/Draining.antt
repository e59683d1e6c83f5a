-- The output of the command `drain` (docs/COMMANDS.md, "drain").
use Rattle.std.specs.Prelude.{◌≡◌, ◌++◌, ◌⊎◌, ◌≤◌, List, Option, [], codes, decimal, ℕ}
use Rattle.std.specs.Io.KnownBytes.{Appends}
use Rattle.clap.specs.Words.{Text}
use Rattle.command_line.specs.ControlAddress.{IsNoControlAddress, SpellsControlAddress}
use Rattle.command_line.specs.declared.control_address.ControlAddress.{ControlAddress}
use Rattle.command_line.specs.declared.ending.Failure.{Failure}
use Rattle.command_line.specs.declared.ending.Status.{Status}
use Rattle.command_line.specs.declared.ending.Status.TheVariants as status
use Rattle.control_client.specs.Wire.{peer_of}
use Rattle.control_client.specs.declared.device.Peer.{Peer}
use Rattle.control_rules.specs.Drain.{Drains, drain_code}
use Rattle.control_rules.specs.History.{ClientValue}
use Rattle.control_rules.specs.declared.draining.Drained.{Drained}
use Rattle.control_rules.specs.declared.draining.Drained.TheVariants.{Changed, Published, Refused, Unsent}
use Rattle.fault_code.specs.Code.{code_text}
use Rattle.ipv4_fields.specs.Endpoint.{IsEndpoint, endpoint_text}
use Rattle.ipv4_fields.specs.declared.endpoint.Endpoint.{Endpoint}
use Rattle.command_operating.specs.Printing.{MayFailAsking}
use Rattle.command_operating.specs.Showing.{version_line}

-- the texts are the key of a group and the ID of a member
pub record NamesMember (key member : Text) (endpoint : Endpoint) (id : ℕ) : Type 0 where
  pub is_endpoint : IsEndpoint endpoint
  pub is_key : key ≡ endpoint_text endpoint
  pub limited : id ≤ 4294967295
  pub is_id : member ≡ decimal id

abbrev pub NamesNoMember : Text → Text → Type 0
NamesNoMember key member = (endpoint : Endpoint) (id : ℕ) → NamesMember key member endpoint id → ⊥

-- a client of the switch drained the member, and it ended so
pub record DrainsFrom (switch : Peer) (key : Endpoint) (id : ℕ) (drained : Drained) : Type 0 where
  pub before : ClientValue
  pub after : ClientValue
  pub is_client : before.switch ≡ switch
  pub drains : Drains key id before after drained

-- how it ended, as a line and as a status
abbrev pub drained_line : Drained → List ℕ
drained_line (Published version) = version_line version []
drained_line (Refused reply) = reply.items
drained_line (Unsent refusal) = codes "refused " ++ code_text (drain_code refusal)
drained_line Changed = []

abbrev pub drained_status : Drained → Status
drained_status (Published version) = status.Done
drained_status (Refused reply) = status.Refused
drained_status (Unsent refusal) = status.Refused
drained_status Changed = status.Failed

-- the draining of the member that the texts name ended with this status, and its line was written
pub record EndsDraining (control key member : Text) (before after : Option (List ℕ)) (ended : Status) : Type 0 where
  pub address : ControlAddress
  pub endpoint : Endpoint
  pub id : ℕ
  pub drained : Drained
  pub is_address : SpellsControlAddress control address
  pub names : NamesMember key member endpoint id
  pub drains : DrainsFrom (peer_of address) endpoint id drained
  pub status_is : ended ≡ drained_status drained
  pub written : Appends before after (drained_line drained ++ codes "\n")

abbrev pub WritesDrain : Text → Text → Text → Option (List ℕ) → Option (List ℕ) → Type 0
WritesDrain control key member before after = EndsDraining control key member before after status.Done

-- `drain` is given texts that are no address, no key or no ID; or the member was not drained. The refusal was written
pub data RefusesDrain (control key member : Text) (before after : Option (List ℕ)) : Type 0 where
  no_member : (IsNoControlAddress control) ⊎ NamesNoMember key member → Appends before after (codes "refused C1\n") → RefusesDrain control key member before after
  not_drained : EndsDraining control key member before after status.Refused → RefusesDrain control key member before after

-- what `drain` writes: that the member was drained, or a refusal
abbrev pub PrintsDrain : Text → Text → Text → Option (List ℕ) → Option (List ℕ) → Type 0
PrintsDrain control key member before after = WritesDrain control key member before after ⊎ RefusesDrain control key member before after

-- why it may fail: the texts name a switch and a member, and it reads no file
abbrev pub MayFailDraining : Text → Text → Text → Failure → Type 0
MayFailDraining control key member failure = ((endpoint : Endpoint) × (id : ℕ) × NamesMember key member endpoint id) × MayFailAsking ⊥ control failure
