-- What `pack` prints.
use Rattle.std.proofs.Common.{List, Option, ℕ}
use Rattle.ipv4_fields.specs.declared.endpoint.Endpoint.{Endpoint}
use Rattle.command_query.specs.declared.command_result.CommandResult.{CommandResult}
use Rattle.command_query.specs.Packing.{IsPackAnswer, IsPayload, IsPayloadAnswer, IsTextOf}

pub packed : (source destination : List ℕ) (digits text : Option (List ℕ)) (from to : Endpoint) → IsTextOf source from → IsTextOf destination to
    → (payload : List ℕ) (answer : CommandResult) → IsPayload digits text payload → IsPayloadAnswer from to payload answer
    → IsPackAnswer source destination digits text answer
packed source destination digits text from to source_is destination_is payload answer payload_is answered = record {
  from = from;
  to = to;
  payload = payload;
  source_is = source_is;
  destination_is = destination_is;
  payload_is = payload_is;
  packet_is = answered;
}
