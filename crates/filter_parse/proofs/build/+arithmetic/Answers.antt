use Rattle.std.proofs.Common.{◌*◌, ◌+◌, ◌<◌, ap, arith, length, reverse}
use Rattle.std.proofs.lemmas.Grind.{common_steps}
use Rattle.filter_parse.specs.body.Stack.{top_of}
use Rattle.filter_parse.proofs.TakenLemmas.{arithmetic-top, fewer-arith, has-index, has-left, has-right}
use Rattle.filter_parse.proofs.build.+arithmetic.Goals as goal

pub arithmetic-operand-requires : goal.arithmetic-operand-requires
arithmetic-operand-requires g t c κs within =
    let is = rw c.in-Some-Access.field-0-is at c.in-Some-Access.ensures in
    let fewer : 2 * length (reverse c.take_last.new.parts.now) + 1 < t = omega (arith, ap length is, c.decreases) in
    (fewer, (within, has-index _ _ _ _ is c.requires.parts))

pub arithmetic-operand-requires-in-Some-Operate : goal.arithmetic-operand-requires-in-Some-Operate
arithmetic-operand-requires-in-Some-Operate g t c κs within =
    let is = rw c.in-Some-Operate.field-0-is at c.in-Some-Operate.ensures in
    let fewer : 2 * length (reverse c.take_last.new.parts.now) + 1 < t = omega (arith, ap length is, c.decreases) in
    (fewer, (within, has-right _ _ _ is c.requires.parts))

pub arithmetic-operand-requires-in-Some-Operate-2 : goal.arithmetic-operand-requires-in-Some-Operate-2
arithmetic-operand-requires-in-Some-Operate-2 g t c κs within =
    let is = rw c.in-Some-Operate.field-0-is at c.in-Some-Operate.ensures in
    let right = c.in_ok-right-in-Some-Operate.ensures in
    let fewer : 2 * length (reverse c.operand-in-Some-Operate.new.parts.now) + 1 < t = omega (arith, ap length is, fewer-arith _ _ _ right, c.decreases) in
    (fewer, (within, has-left _ _ _ _ _ is c.requires.parts right))

pub arithmetic-unreachable-requires : goal.arithmetic-unreachable-requires
arithmetic-unreachable-requires g t c = arithmetic-top _ _ (ap top_of (rw c.in-Some-Primitive.field-0-is at c.in-Some-Primitive.ensures)) c.requires.parts

pub arithmetic-unreachable-requires-in-Some-Relate : goal.arithmetic-unreachable-requires-in-Some-Relate
arithmetic-unreachable-requires-in-Some-Relate g t c = arithmetic-top _ _ (ap top_of (rw c.in-Some-Relate.field-0-is at c.in-Some-Relate.ensures)) c.requires.parts

pub arithmetic-unreachable-requires-in-Some-Negate : goal.arithmetic-unreachable-requires-in-Some-Negate
arithmetic-unreachable-requires-in-Some-Negate g t c = arithmetic-top _ _ (ap top_of (rw c.in-Some-Negate.field-0-is at c.in-Some-Negate.ensures)) c.requires.parts

pub arithmetic-unreachable-requires-in-Some-Conjoin : goal.arithmetic-unreachable-requires-in-Some-Conjoin
arithmetic-unreachable-requires-in-Some-Conjoin g t c = arithmetic-top _ _ (ap top_of (rw c.in-Some-Conjoin.field-0-is at c.in-Some-Conjoin.ensures)) c.requires.parts

pub arithmetic-unreachable-requires-in-Some-Disjoin : goal.arithmetic-unreachable-requires-in-Some-Disjoin
arithmetic-unreachable-requires-in-Some-Disjoin g t c = arithmetic-top _ _ (ap top_of (rw c.in-Some-Disjoin.field-0-is at c.in-Some-Disjoin.ensures)) c.requires.parts

pub arithmetic-unreachable-requires-in-None : goal.arithmetic-unreachable-requires-in-None
arithmetic-unreachable-requires-in-None g t c = arithmetic-top _ _ (ap top_of c.in-None.ensures) c.requires.parts

pub arithmetic-returns-in-Some-Number : goal.arithmetic-returns-in-Some-Number
arithmetic-returns-in-Some-Number g t c = grind (arith, common_steps)

pub arithmetic-returns-in-Some-Length : goal.arithmetic-returns-in-Some-Length
arithmetic-returns-in-Some-Length g t c = grind (arith, common_steps)

pub arithmetic-returns-in_ok-index-in-Some-Access : goal.arithmetic-returns-in_ok-index-in-Some-Access
arithmetic-returns-in_ok-index-in-Some-Access g t c = grind (arith, common_steps)

pub arithmetic-returns-in_ok-left-in-Some-Operate : goal.arithmetic-returns-in_ok-left-in-Some-Operate
arithmetic-returns-in_ok-left-in-Some-Operate g t c = grind (arith, common_steps)

pub operand-returns-in-Some : goal.operand-returns-in-Some
operand-returns-in-Some g t c = grind (arith, common_steps)

pub operand-returns : goal.operand-returns
operand-returns g t c = grind (arith, common_steps)
