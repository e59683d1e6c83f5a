use Rattle.std.proofs.Common.{arith}
use Rattle.control.proofs.HeldLemmas.{last_line_ended, line_ended}
use Rattle.control.proofs.held.Held.end_line.Goals as goal

pub returns-then-self-eq1 : goal.returns-then-self-eq1
returns-then-self-eq1 c = last_line_ended c.args.self.now (omega (arith, c.if-self-eq1.true))

pub returns : goal.returns
returns c =
    line_ended c.args.self.now c.push.new.self (omega (arith, c.if-self-eq0.false, c.if-self-eq1.false)) (let due = c.in_ok-push.ensures.due in omega (arith, due))
    (λ most text up. c.in_ok-push.ensures.held most text (record { bytes = up.bytes; room = up.room }))
