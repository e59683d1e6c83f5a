use Rattle.std.proofs.Common.{inl, inr, refl}
use Rattle.serve_stream.specs.declared.conversation.Turn.TheVariants.{Closed, Stop, Waits, Went}
use Rattle.serve_stream.proofs.TurnLemmas.{hears, hindered_after, says, turn_made, turn_over, turn_written, waits_to_read, waits_to_write}
use Rattle.serve_stream.proofs.conversation.Conversation.turn.Goals as goal

pub returns-then-is : goal.returns-then-is
returns-then-is g c = turn_over g.A.Answers.exchanges c.args.budget (g.S.Stream.log c.args.stream.now) c.args.answers.now c.args.self.now (c.is.ensures.0 c.if-is.true)

pub returns-then-is-2 : goal.returns-then-is-2
returns-then-is-2 g c =
    let stopped = c.stop.ensures.stopped in
    let over = c.stop.ensures.over in
    turn_made g.A.Answers.exchanges c.args.budget (g.S.Stream.log c.args.stream.now) (g.S.Stream.log c.read-more_comes.new.stream) (g.S.Stream.log c.stop.new.stream) c.args.answers.now c.answer_few.new.answers
    c.args.self.now c.read-more_comes.new.self c.answer_few.new.self c.stop.new.self c.read-more_comes.result Stop c.read-more_comes.ensures c.answer_few.ensures.answered
    (λ end. absurd (cc (c.is.ensures.1 end, c.if-is.false)))
    stopped.0 stopped.1 stopped.2 (over, λ some. hindered_after c.read-more_comes.ensures.events stopped.0 (stopped.3 some)) (λ other. absurd (other refl)) (λ here. absurd (cc (here, over))) (λ is. c.is-2.ensures.0 c.if-is-2.true, λ here. refl)
    (λ here. over) (λ here is. absurd (cc (is, over))) (λ none is. absurd (cc (is, over))) (λ is. absurd (cc (is, over)))

pub returns-then-is-3 : goal.returns-then-is-3
returns-then-is-3 g c =
    turn_written g.A.Answers.exchanges c.args.budget (g.S.Stream.log c.args.stream.now) (g.S.Stream.log c.read-more_comes.new.stream) (g.S.Stream.log c.write-more_goes.new.stream) c.args.answers.now c.answer_few.new.answers
    c.args.self.now c.read-more_comes.new.self c.answer_few.new.self c.close_if_due.new.self c.read-more_comes.result Closed c.read-more_comes.ensures c.answer_few.ensures.answered
    (λ end. absurd (cc (c.is.ensures.1 end, c.if-is.false)))
    c.write-more_goes.new.self c.write-more_goes.result c.write-more_goes.ensures c.close_if_due.ensures.moves c.close_if_due.ensures.kept
    (c.is-3.ensures.0 c.if-is-3.true)
    (λ is. absurd cc) (λ here. absurd (cc (c.is-2.ensures.1 here, c.if-is-2.false))) c.answer_few.ensures.was_open c.answer_few.ensures.over c.close_if_due.ensures.taken

pub returns-then-more_goes : goal.returns-then-more_goes
returns-then-more_goes g c =
    turn_written g.A.Answers.exchanges c.args.budget (g.S.Stream.log c.args.stream.now) (g.S.Stream.log c.read-more_comes.new.stream) (g.S.Stream.log c.write-more_goes.new.stream) c.args.answers.now c.answer_few.new.answers
    c.args.self.now c.read-more_comes.new.self c.answer_few.new.self c.close_if_due.new.self c.read-more_comes.result Went c.read-more_comes.ensures c.answer_few.ensures.answered
    (λ end. absurd (cc (c.is.ensures.1 end, c.if-is.false)))
    c.write-more_goes.new.self c.write-more_goes.result c.write-more_goes.ensures c.close_if_due.ensures.moves c.close_if_due.ensures.kept (
      (λ over. absurd (cc (c.is-3.ensures.1 over, c.if-is-3.false))),
      c.close_if_due.ensures.few (λ over. absurd (cc (c.is-3.ensures.1 over, c.if-is-3.false))),
      inr (says (g.S.Stream.log c.args.stream.now) (g.S.Stream.log c.read-more_comes.new.stream) (g.S.Stream.log c.write-more_goes.new.stream) c.args.self.now c.read-more_comes.new.self c.answer_few.new.self c.write-more_goes.new.self c.close_if_due.new.self
          c.read-more_comes.result c.write-more_goes.result c.read-more_comes.ensures c.write-more_goes.ensures c.close_if_due.ensures.kept (λ over. absurd (cc (c.is-3.ensures.1 over, c.if-is-3.false))) c.if-more_goes.true),
    )
    (λ is. absurd cc) (λ here. absurd (cc (c.is-2.ensures.1 here, c.if-is-2.false))) c.answer_few.ensures.was_open c.answer_few.ensures.over c.close_if_due.ensures.taken

pub returns-then-hears_more : goal.returns-then-hears_more
returns-then-hears_more g c =
    turn_written g.A.Answers.exchanges c.args.budget (g.S.Stream.log c.args.stream.now) (g.S.Stream.log c.read-more_comes.new.stream) (g.S.Stream.log c.write-more_goes.new.stream) c.args.answers.now c.answer_few.new.answers
    c.args.self.now c.read-more_comes.new.self c.answer_few.new.self c.close_if_due.new.self c.read-more_comes.result Went c.read-more_comes.ensures c.answer_few.ensures.answered
    (λ end. absurd (cc (c.is.ensures.1 end, c.if-is.false)))
    c.write-more_goes.new.self c.write-more_goes.result c.write-more_goes.ensures c.close_if_due.ensures.moves c.close_if_due.ensures.kept (
      (λ over. absurd (cc (c.is-3.ensures.1 over, c.if-is-3.false))),
      c.close_if_due.ensures.few (λ over. absurd (cc (c.is-3.ensures.1 over, c.if-is-3.false))),
      inl (hears (g.S.Stream.log c.args.stream.now) (g.S.Stream.log c.read-more_comes.new.stream) (g.S.Stream.log c.write-more_goes.new.stream) c.args.self.now c.read-more_comes.new.self c.answer_few.new.self c.write-more_goes.new.self c.close_if_due.new.self
          c.read-more_comes.result c.write-more_goes.result c.read-more_comes.ensures c.write-more_goes.ensures c.close_if_due.ensures.kept (λ over. absurd (cc (c.is-3.ensures.1 over, c.if-is-3.false))) (c.hears_more.ensures.more c.if-hears_more.true)),
    )
    (λ is. absurd cc) (λ here. absurd (cc (c.is-2.ensures.1 here, c.if-is-2.false))) c.answer_few.ensures.was_open c.answer_few.ensures.over c.close_if_due.ensures.taken

pub returns : goal.returns
returns g c =
    turn_written g.A.Answers.exchanges c.args.budget (g.S.Stream.log c.args.stream.now) (g.S.Stream.log c.read-more_comes.new.stream) (g.S.Stream.log c.write-more_goes.new.stream) c.args.answers.now c.answer_few.new.answers
    c.args.self.now c.read-more_comes.new.self c.answer_few.new.self c.close_if_due.new.self c.read-more_comes.result Waits c.read-more_comes.ensures c.answer_few.ensures.answered
    (λ end. absurd (cc (c.is.ensures.1 end, c.if-is.false)))
    c.write-more_goes.new.self c.write-more_goes.result c.write-more_goes.ensures c.close_if_due.ensures.moves c.close_if_due.ensures.kept (
      (λ over. absurd (cc (c.is-3.ensures.1 over, c.if-is-3.false))),
      c.close_if_due.ensures.few (λ over. absurd (cc (c.is-3.ensures.1 over, c.if-is-3.false))),
      waits_to_read (g.S.Stream.log c.args.stream.now) (g.S.Stream.log c.read-more_comes.new.stream) (g.S.Stream.log c.write-more_goes.new.stream) c.args.self.now c.read-more_comes.new.self c.answer_few.new.self c.write-more_goes.new.self c.close_if_due.new.self
          c.read-more_comes.result c.write-more_goes.result c.read-more_comes.ensures c.write-more_goes.ensures c.close_if_due.ensures.kept (λ over. absurd (cc (c.is-3.ensures.1 over, c.if-is-3.false)))
          c.answer_few.ensures.none c.answer_few.ensures.was_open (c.hears_more.ensures.no_more c.if-hears_more.false),
      waits_to_write (g.S.Stream.log c.args.stream.now) (g.S.Stream.log c.read-more_comes.new.stream) (g.S.Stream.log c.write-more_goes.new.stream) c.args.self.now c.read-more_comes.new.self c.answer_few.new.self c.write-more_goes.new.self c.close_if_due.new.self
          c.read-more_comes.result c.write-more_goes.result c.read-more_comes.ensures c.write-more_goes.ensures c.close_if_due.ensures.kept (λ over. absurd (cc (c.is-3.ensures.1 over, c.if-is-3.false))) c.if-more_goes.false,
    )
    (λ is. absurd cc) (λ here. absurd (cc (c.is-2.ensures.1 here, c.if-is-2.false))) c.answer_few.ensures.was_open c.answer_few.ensures.over c.close_if_due.ensures.taken
