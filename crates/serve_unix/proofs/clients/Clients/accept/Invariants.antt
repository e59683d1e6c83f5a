use Rattle.serve_unix.specs.Places.{HasAcceptedSome}
use Rattle.serve_unix.proofs.clients.Clients.accept.Given as goal

abbrev pub invariant-loop-client : goal.invariant-loop-client
invariant-loop-client g l =
    HasAcceptedSome g.S.Stream.log l._client (g.C.Connections.log l.fn.connections) (g.C.Connections.log l.connections)
    (record { seats = l.fn.self.places.items; next = l.fn.self.next; admitted = l.fn.self.admitted })
    (record { seats = l.self.places.items; next = l.self.next; admitted = l.self.admitted })
