use Rattle.std.proofs.Common.{◌∙◌, arith, inl, sym}
use Rattle.serve_unix.proofs.PlaceLemmas.{turns_end, turns_none, turns_one, turns_stop}
use Rattle.serve_unix.proofs.clients.Clients.turns.Goals as goal

pub loop-turn-init : goal.loop-turn-init
loop-turn-init g c =
    turns_none g.S.Stream.log g.A.Answers.exchanges g.A.Answers.notes g.A.AnswersClients.turns_to _ c.args.answers.now (g.C.Connections.log c.args.connections.now)

pub loop-turn-preserved : goal.loop-turn-preserved
loop-turn-preserved g c =
    turns_one g.S.Stream.log g.A.Answers.exchanges g.A.Answers.notes g.A.AnswersClients.turns_to _ _ _ c.loop-turn._turn _ _ _ _ _ _ c.loop-turn.invariant c.in-Some.turn _
    (sym c.is_stop.ensures ∙ c.if-is_stop.false) c.in-Some.ensures

pub returns-in_default : goal.returns-in_default
returns-in_default g c = record {
  turns_in_order = turns_end g.S.Stream.log g.A.Answers.exchanges g.A.Answers.notes g.A.AnswersClients.turns_to _ _ _ c.loop-turn._turn _ _ _ _ _ _ c.loop-turn.invariant c.args.budget
      (omega arith) c.in_default.ensures;
}

pub returns-then-is_stop : goal.returns-then-is_stop
returns-then-is_stop g c = record {
  turns_in_order = turns_stop g.S.Stream.log g.A.Answers.exchanges g.A.Answers.notes g.A.AnswersClients.turns_to _ _ _ c.loop-turn._turn _ _ _ _ _ _ c.loop-turn.invariant c.in-Some.turn c.args.budget
      (sym c.is_stop.ensures ∙ c.if-is_stop.true) (omega arith) c.in-Some.ensures;
}

pub returns : goal.returns
returns g c = record {
  turns_in_order = record { count = c.loop-turn._turn; few = omega arith; in_order = c.loop-turn.invariant; enough = λ no. inl (omega arith) };
}
