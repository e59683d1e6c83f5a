-- Which commands are `packets`, what is told where one is not, and how `packets` fails.
use Rattle.std.proofs.Common.{◌≡◌, ◌∙◌, ◌⊎◌, Bool, Err, List, Ok, Option, Result, inl, inr, refl, subst, sym, ℕ}
use Rattle.std.specs.Prelude.{IfErr, OnErr, OnOk}
use Rattle.command_line.specs.CommandLine.{Request, packets, query_request, replay}
use Rattle.command_line.specs.declared.command.Query.{Query}
use Rattle.command_line.specs.declared.command.Query.TheVariants as query
use Rattle.command_line.specs.Input.{IsInput}
use Rattle.command_line.specs.declared.ending.Failure.{Failure}
use Rattle.command_line.specs.declared.ending.Failure.TheVariants.{BindFailed, NoAnswer, OutOfMemory, PollFailed, ReadFailed, RulesChanged, SpawnFailed, WriteFailed}
use Rattle.command_line.specs.declared.ending.Status.{Status}
use Rattle.command_returning.specs.Request.{PacketsWriteBefore}
use Rattle.packet_capture.specs.Packets.{WritesBeginning, WritesFirst}

pub query_differs : (it : Query) (port : Option ℕ) → query_request it ≡ packets port → ⊥
query_differs query.First port is = cc
query_differs (query.Check format) port is = cc
query_differs (query.Compile expression format) port is = cc
query_differs (query.Run packet format) port is = cc
query_differs (query.Judge packet expression) port is = cc
query_differs (query.Pack source destination payload text) port is = cc
query_differs (query.Explain code) port is = cc
query_differs (query.Spread asked) port is = cc

pub replay_differs : (summary quiet : Bool) (port : Option ℕ) → replay summary quiet ≡ packets port → ⊥
replay_differs summary quiet port is = cc

-- what holds of `packets` alone, by its port: of another command, and of `packets`
pub of_another : (P : Option ℕ → Type 0) (result : Result Status Failure) (request : Request) → ((port : Option ℕ) → request ≡ packets port → ⊥)
    → OnOk result ((port : Option ℕ) → request ≡ packets port → P port)
of_another P (Ok status) request other = λ port is. absurd (other port is)
of_another P (Err failure) request other = tt

pub of_packets : (P : Option ℕ → Type 0) (result : Result Status Failure) (request : Request) (unwrap : Option ℕ) → request ≡ packets unwrap → OnOk result (P unwrap)
    → OnOk result ((port : Option ℕ) → request ≡ packets port → P port)
of_packets P (Ok status) request unwrap asked holds = λ port is.
    let same : packets unwrap ≡ packets port = sym asked ∙ is in
    let port_is : unwrap ≡ port = cc in subst P port_is holds
of_packets P (Err failure) request unwrap asked holds = tt

-- and what holds of other commands, of `packets`
pub of_no_other : (P : Type 0) (result : Result Status Failure) (request : Request) (unwrap : Option ℕ) → request ≡ packets unwrap
    → OnOk result (((port : Option ℕ) → request ≡ packets port → ⊥) → P)
of_no_other P (Ok status) request unwrap asked = λ other. absurd (other unwrap asked)
of_no_other P (Err failure) request unwrap asked = tt

-- the input was read, and then writing failed or memory was refused
pub packets_fail : (unwrap : Option ℕ) (result : Result Status Failure) (known before after : Option (List ℕ)) (file : List ℕ) → IsInput known file
    → IfErr result (λ failure. (failure ≡ WriteFailed) ⊎ (failure ≡ OutOfMemory)) → (result ≡ Err OutOfMemory → WritesFirst unwrap file before after)
    → OnErr result (WritesBeginning unwrap file before after) → IfErr result (λ failure. PacketsWriteBefore unwrap failure known before after)
packets_fail unwrap (Ok status) known before after file is either memory begun = tt
packets_fail unwrap (Err WriteFailed) known before after file is either memory begun = (file, is, begun)
packets_fail unwrap (Err OutOfMemory) known before after file is either memory begun = inr (file, is, memory refl)
packets_fail unwrap (Err ReadFailed) known before after file is either memory begun = elim either [ inl e ↦ cc | inr e ↦ cc ]
packets_fail unwrap (Err SpawnFailed) known before after file is either memory begun = elim either [ inl e ↦ cc | inr e ↦ cc ]
packets_fail unwrap (Err BindFailed) known before after file is either memory begun = elim either [ inl e ↦ cc | inr e ↦ cc ]
packets_fail unwrap (Err PollFailed) known before after file is either memory begun = elim either [ inl e ↦ cc | inr e ↦ cc ]
packets_fail unwrap (Err NoAnswer) known before after file is either memory begun = elim either [ inl e ↦ cc | inr e ↦ cc ]
packets_fail unwrap (Err RulesChanged) known before after file is either memory begun = elim either [ inl e ↦ cc | inr e ↦ cc ]
