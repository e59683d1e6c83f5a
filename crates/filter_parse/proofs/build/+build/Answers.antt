use Rattle.std.proofs.Common.{◌*◌, ◌+◌, ◌<◌, ap, arith, length, reverse, subst}
use Rattle.std.proofs.lemmas.Grind.{common_steps}
use Rattle.filter_parse.specs.body.Postfix.{HasTree}
use Rattle.filter_parse.specs.body.Stack.{top_of}
use Rattle.filter_parse.proofs.TakenLemmas.{fewer-tree, has-conjoined, has-conjoined-left, has-disjoined, has-disjoined-left, has-negated, truth-top}
use Rattle.filter_parse.proofs.build.+build.Goals as goal

pub build-relation-requires-clause-parts : goal.build-relation-requires-clause-parts
build-relation-requires-clause-parts g t c = subst HasTree (rw c.in-Some-Relate.field-0-is at c.in-Some-Relate.ensures) c.requires.parts

pub build-part-requires : goal.build-part-requires
build-part-requires g t c κs within =
    let is = rw c.in-Some-Negate.field-0-is at c.in-Some-Negate.ensures in
    let fewer : 3 * length (reverse c.take_last.new.parts.now) + 2 < t = omega (arith, ap length is, c.decreases) in
    (fewer, (within, has-negated _ _ is c.requires.parts))

pub build-part-requires-in-Some-Conjoin : goal.build-part-requires-in-Some-Conjoin
build-part-requires-in-Some-Conjoin g t c κs within =
    let is = rw c.in-Some-Conjoin.field-0-is at c.in-Some-Conjoin.ensures in
    let fewer : 3 * length (reverse c.take_last.new.parts.now) + 2 < t = omega (arith, ap length is, c.decreases) in
    (fewer, (within, has-conjoined _ _ is c.requires.parts))

pub build-part-requires-in-Some-Conjoin-2 : goal.build-part-requires-in-Some-Conjoin-2
build-part-requires-in-Some-Conjoin-2 g t c κs within =
    let is = rw c.in-Some-Conjoin.field-0-is at c.in-Some-Conjoin.ensures in
    let right = c.in_ok-right-in-Some-Conjoin.ensures in
    let fewer : 3 * length (reverse c.part-in-Some-Conjoin.new.parts.now) + 2 < t = omega (arith, ap length is, fewer-tree _ _ _ right, c.decreases) in
    (fewer, (within, has-conjoined-left _ _ _ _ is c.requires.parts right))

pub build-part-requires-in-Some-Disjoin : goal.build-part-requires-in-Some-Disjoin
build-part-requires-in-Some-Disjoin g t c κs within =
    let is = rw c.in-Some-Disjoin.field-0-is at c.in-Some-Disjoin.ensures in
    let fewer : 3 * length (reverse c.take_last.new.parts.now) + 2 < t = omega (arith, ap length is, c.decreases) in
    (fewer, (within, has-disjoined _ _ is c.requires.parts))

pub build-part-requires-in-Some-Disjoin-2 : goal.build-part-requires-in-Some-Disjoin-2
build-part-requires-in-Some-Disjoin-2 g t c κs within =
    let is = rw c.in-Some-Disjoin.field-0-is at c.in-Some-Disjoin.ensures in
    let right = c.in_ok-right-in-Some-Disjoin.ensures in
    let fewer : 3 * length (reverse c.part-in-Some-Disjoin.new.parts.now) + 2 < t = omega (arith, ap length is, fewer-tree _ _ _ right, c.decreases) in
    (fewer, (within, has-disjoined-left _ _ _ _ is c.requires.parts right))

pub build-unreachable-requires : goal.build-unreachable-requires
build-unreachable-requires g t c = truth-top _ _ (ap top_of (rw c.in-Some-Number.field-0-is at c.in-Some-Number.ensures)) c.requires.parts

pub build-unreachable-requires-in-Some-Length : goal.build-unreachable-requires-in-Some-Length
build-unreachable-requires-in-Some-Length g t c = truth-top _ _ (ap top_of (rw c.in-Some-Length.field-0-is at c.in-Some-Length.ensures)) c.requires.parts

pub build-unreachable-requires-in-Some-Access : goal.build-unreachable-requires-in-Some-Access
build-unreachable-requires-in-Some-Access g t c = truth-top _ _ (ap top_of (rw c.in-Some-Access.field-0-is at c.in-Some-Access.ensures)) c.requires.parts

pub build-unreachable-requires-in-Some-Operate : goal.build-unreachable-requires-in-Some-Operate
build-unreachable-requires-in-Some-Operate g t c = truth-top _ _ (ap top_of (rw c.in-Some-Operate.field-0-is at c.in-Some-Operate.ensures)) c.requires.parts

pub build-unreachable-requires-in-None : goal.build-unreachable-requires-in-None
build-unreachable-requires-in-None g t c = truth-top _ _ (ap top_of c.in-None.ensures) c.requires.parts

pub build-returns-in-Some-Primitive : goal.build-returns-in-Some-Primitive
build-returns-in-Some-Primitive g t c = grind (arith, common_steps)

pub build-returns-in-Some-Relate : goal.build-returns-in-Some-Relate
build-returns-in-Some-Relate g t c = grind (arith, common_steps)

pub build-returns-in_ok-part-in-Some-Negate : goal.build-returns-in_ok-part-in-Some-Negate
build-returns-in_ok-part-in-Some-Negate g t c = grind (arith, common_steps)

pub build-returns-in_ok-part-in-Some-Conjoin : goal.build-returns-in_ok-part-in-Some-Conjoin
build-returns-in_ok-part-in-Some-Conjoin g t c = grind (arith, common_steps)

pub build-returns-in_ok-part-in-Some-Disjoin : goal.build-returns-in_ok-part-in-Some-Disjoin
build-returns-in_ok-part-in-Some-Disjoin g t c = grind (arith, common_steps)

pub joined-returns : goal.joined-returns
joined-returns g t c = grind (arith, common_steps)

pub part-returns-in-Some : goal.part-returns-in-Some
part-returns-in-Some g t c = grind (arith, common_steps)

pub part-returns-in-Some-take_relator : goal.part-returns-in-Some-take_relator
part-returns-in-Some-take_relator g t c = grind (arith, common_steps)

pub part-returns : goal.part-returns
part-returns g t c = grind (arith, common_steps)
