use Rattle.serve_unix.proofs.ClientLemmas.{turn_closed, turn_kept}
use Rattle.serve_unix.proofs.client.turn_in.Goals as goal

pub returns-in-Went : goal.returns-in-Went
returns-in-Went g c =
    turn_kept g.S.Stream.log g.A.Answers.exchanges g.A.Answers.notes c.args.place.now c.in-Some.client c.turn-turn.new.self c.args.answers.now c.turn-turn.new.answers c.turn-turn.result
    c.in-Some.is c.turn-turn.ensures (g.C.Connections.log c.args.connections.now) c.in-Went.is

pub returns-in-Closed : goal.returns-in-Closed
returns-in-Closed g c =
    turn_closed g.S.Stream.log g.A.Answers.exchanges g.A.Answers.notes c.args.place.now c.in-Some.client c.turn-turn.new.self c.args.answers.now c.turn-turn.new.answers c.turn-turn.result
    c.in-Some.is c.turn-turn.ensures c.close.new.place (g.C.Connections.log c.args.connections.now) (g.C.Connections.log c.close.new.connections) c.in-Closed.is c.close.ensures.emptied c.close.ensures.closed
