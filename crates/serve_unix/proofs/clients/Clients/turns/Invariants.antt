use Rattle.std.proofs.Common.{false}
use Rattle.serve_unix.specs.Places.{TurnsInOrder}
use Rattle.serve_unix.proofs.clients.Clients.turns.Given as goal

abbrev pub invariant-loop-turn : goal.invariant-loop-turn
invariant-loop-turn g l =
    TurnsInOrder g.S.Stream.log g.A.Answers.exchanges g.A.Answers.notes g.A.AnswersClients.turns_to
    (record { seats = l.fn.self.places.items; next = l.fn.self.next; admitted = l.fn.self.admitted }) l.fn.answers (g.C.Connections.log l.fn.connections)
    l._turn false
    (record { seats = l.self.places.items; next = l.self.next; admitted = l.self.admitted }) l.answers (g.C.Connections.log l.connections)
