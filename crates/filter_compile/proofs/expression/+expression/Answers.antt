use Rattle.std.proofs.Common.{◌∙◌, ◌+◌, ◌≤◌, Some, ap, arith, false, rules, true}
use Rattle.filter_emit.proofs.GuardLemmas.{Guards-bound, Guards-bound_no, Guards-writes}
use Rattle.filter_emit.proofs.WritesLemmas.{Writes-not, Writes-weight, bindable, bindable_no}
use Rattle.filter_tree.specs.Measure.{weight_of}
use Rattle.filter_tree.specs.Truth.{truth_of}
use Rattle.filter_tree.specs.View.{tree_of}
use Rattle.filter_facts.specs.Known.{Holds}
use Rattle.filter_compile.specs.body.Front.{guard_weight}
use Rattle.filter_compile.specs.body.Weight.{weight_under}
use Rattle.filter_compile.proofs.NonIpv4Lemmas.{Writes-no_non_ipv4, Writes-yes_non_ipv4, settled}
use Rattle.filter_compile.proofs.GuardLemmas.{Guards-writes_no}
use Rattle.filter_compile.proofs.TestLemmas.{Tests-and, Tests-not, Tests-or}
use Rattle.filter_compile.proofs.WeightLemmas.{weight_under-within}
use Rattle.filter_compile.proofs.expression.+expression.Goals as goal

-- ---- behind a guard

pub behind_guard-ask-requires-clause-room : goal.behind_guard-ask-requires-clause-room
behind_guard-ask-requires-clause-room g height c = let test = (settled c.args.front.guard c.args.known (tree_of c.args.expr.now) c.args.front.truth c.requires.may_ask c.requires.begins c.requires.settled).room.test in omega arith

pub behind_guard-ask-requires-clause-behind : goal.behind_guard-ask-requires-clause-behind
behind_guard-ask-requires-clause-behind g height c = let test = (settled c.args.front.guard c.args.known (tree_of c.args.expr.now) c.args.front.truth c.requires.may_ask c.requires.begins c.requires.settled).room.test in omega arith

pub behind_guard-ask-requires-2-clause-room : goal.behind_guard-ask-requires-2-clause-room
behind_guard-ask-requires-2-clause-room g height c = let test = (settled c.args.front.guard c.args.known (tree_of c.args.expr.now) c.args.front.truth c.requires.may_ask c.requires.begins c.requires.settled).room.test in omega arith

pub behind_guard-ask-requires-2-clause-behind : goal.behind_guard-ask-requires-2-clause-behind
behind_guard-ask-requires-2-clause-behind g height c = let test = (settled c.args.front.guard c.args.known (tree_of c.args.expr.now) c.args.front.truth c.requires.may_ask c.requires.begins c.requires.settled).room.test in omega arith

pub behind_guard-parts-requires : goal.behind_guard-parts-requires
behind_guard-parts-requires g height c κs within =
    let front = c.args.front in let tree = tree_of c.args.expr.now in let on = c.in_ok-passed.passed.on in
    let few : guard_weight front.guard c.args.known + weight_under on tree ≤ weight_under c.args.known tree =
    (settled front.guard c.args.known tree front.truth c.requires.may_ask c.requires.begins c.requires.settled).room.rest on (c.in_ok-passed.ensures.learned c.requires.may_ask) in search rules

pub behind_guard-parts-requires-2 : goal.behind_guard-parts-requires-2
behind_guard-parts-requires-2 g height c κs within =
    let front = c.args.front in let tree = tree_of c.args.expr.now in let on = c.in_ok-passed-2.passed.on in
    let few : guard_weight front.guard c.args.known + weight_under on tree ≤ weight_under c.args.known tree =
    (settled front.guard c.args.known tree front.truth c.requires.may_ask c.requires.begins c.requires.settled).room.rest on (c.in_ok-passed-2.ensures.learned c.requires.may_ask) in search rules

pub behind_guard-returns-then-front : goal.behind_guard-returns-then-front
behind_guard-returns-then-front g height c =
    let guard = c.args.front.guard in let tree = tree_of c.args.expr.now in let passed = c.in_ok-passed.passed in let sides = c.in_ok-sides.sides in record {
      writes = Writes-yes_non_ipv4 guard tree c.args.known passed.on passed.no (c.in_ok-passed.ensures.learned c.requires.may_ask) sides.yes c.or_no.result sides.no
          (settled guard c.args.known tree true c.requires.may_ask c.requires.begins (c.requires.settled ∙ ap Some c.if-front.true)) c.or_no.ensures.of_self c.or_no.ensures.of_no c.in_ok-passed.ensures.guards c.in_ok-sides.ensures.writes;
    }

pub behind_guard-returns : goal.behind_guard-returns
behind_guard-returns g height c =
    let guard = c.args.front.guard in let tree = tree_of c.args.expr.now in let passed = c.in_ok-passed-2.passed in let sides = c.in_ok-sides-2.sides in record {
      writes = Writes-no_non_ipv4 guard tree c.args.known passed.on passed.no (c.in_ok-passed-2.ensures.learned c.requires.may_ask) sides.yes sides.no c.or_no-2.result
          (settled guard c.args.known tree false c.requires.may_ask c.requires.begins (c.requires.settled ∙ ap Some c.if-front.false)) c.or_no-2.ensures.of_self c.or_no-2.ensures.of_no c.in_ok-passed-2.ensures.guards c.in_ok-sides-2.ensures.writes;
    }

-- ---- what has no parts

pub expression-returns-in-Primitive : goal.expression-returns-in-Primitive
expression-returns-in-Primitive g height c = record { writes = rw c.in-Primitive.is c.primitive.ensures.writes }

pub expression-returns-in-Relation : goal.expression-returns-in-Relation
expression-returns-in-Relation g height c = record { writes = rw c.in-Relation.is c.relation.ensures.writes }

-- ---- the parts

pub parts-returns-in-Primitive : goal.parts-returns-in-Primitive
parts-returns-in-Primitive g height c = record { writes = rw c.in-Primitive.is c.primitive.ensures.writes }

pub parts-returns-in-Relation : goal.parts-returns-in-Relation
parts-returns-in-Relation g height c = record { writes = rw c.in-Relation.is c.relation.ensures.writes }

pub parts-returns-in_ok-sides-in-Not : goal.parts-returns-in_ok-sides-in-Not
parts-returns-in_ok-sides-in-Not g height c =
    let inner = tree_of c.deref.result.now in let known = c.args.known in let sides = c.in_ok-sides-in-Not.sides in record {
      writes = rw (c.in-Not.is, ← c.deref.ensures) (Writes-not (λ at_yes at_no words h. Tests-not (Holds known) (Holds sides.no) (Holds sides.yes) (truth_of inner) at_yes at_no words h) c.in_ok-sides-in-Not.ensures.writes);
    }

pub parts-returns-in-And : goal.parts-returns-in-And
parts-returns-in-And g height c = record { writes = rw (c.in-And.is, ← c.deref-in-And.ensures, ← c.deref-in-And-2.ensures) c.conjunction.ensures.writes }

pub parts-returns-in-Or : goal.parts-returns-in-Or
parts-returns-in-Or g height c = record { writes = rw (c.in-Or.is, ← c.deref-in-Or.ensures, ← c.deref-in-Or-2.ensures) c.disjunction.ensures.writes }

pub conjunction-expression-requires : goal.conjunction-expression-requires
conjunction-expression-requires g height c κs within =
    let few : weight_under c.in_ok-first.first.yes (tree_of c.args.right.now) ≤ weight_of (tree_of c.args.right.now) = weight_under-within c.in_ok-first.first.yes (tree_of c.args.right.now) in search rules

pub conjunction-returns : goal.conjunction-returns
conjunction-returns g height c =
    let left = tree_of c.args.left.now in let right = tree_of c.args.right.now in let first = c.in_ok-first.first in let second = c.in_ok-second.second in record {
      writes = Guards-writes
          (λ at_yes at_no mid words h k. Tests-and (Holds c.args.known) (Holds first.yes) (Holds second.yes) (Holds first.no) (Holds second.no) (Holds c.join.result) (truth_of left) (truth_of right) c.join.ensures.of_self c.join.ensures.of_other at_yes at_no mid words k h)
          c.in_ok-first.ensures.guards (Writes-weight (weight_of right) (weight_under-within first.yes right) c.in_ok-second.ensures.writes);
    }

pub disjunction-expression-requires : goal.disjunction-expression-requires
disjunction-expression-requires g height c κs within =
    let few : weight_under c.in_ok-first.first.no (tree_of c.args.right.now) ≤ weight_of (tree_of c.args.right.now) = weight_under-within c.in_ok-first.first.no (tree_of c.args.right.now) in search rules

pub disjunction-returns : goal.disjunction-returns
disjunction-returns g height c =
    let left = tree_of c.args.left.now in let right = tree_of c.args.right.now in let first = c.in_ok-first.first in let second = c.in_ok-second.second in record {
      writes = Guards-writes_no
          (λ at_yes at_no mid words h k. Tests-or (Holds c.args.known) (Holds first.no) (Holds second.no) (Holds first.yes) (Holds second.yes) (Holds c.join.result) (truth_of left) (truth_of right) c.join.ensures.of_self c.join.ensures.of_other at_yes at_no mid words k h)
          c.in_ok-first.ensures.guards (Writes-weight (weight_of right) (weight_under-within first.no right) c.in_ok-second.ensures.writes);
    }

pub left_of_and-bind-requires-clause-open : goal.left_of_and-bind-requires-clause-open
left_of_and-bind-requires-clause-open g height c = bindable c.label-on.ensures.empty c.in_ok-sides.ensures.writes

pub left_of_and-returns : goal.left_of_and-returns
left_of_and-returns g height c =
    let by = c.label-on.ensures.by in let behind = c.requires.behind in record {
      guards = Guards-bound c.label-on.ensures.empty (omega arith) c.in_ok-sides.ensures.writes c.bind.ensures.bound;
    }

pub left_of_or-bind-requires-clause-open : goal.left_of_or-bind-requires-clause-open
left_of_or-bind-requires-clause-open g height c = bindable_no c.label-on.ensures.empty c.in_ok-sides.ensures.writes

pub left_of_or-returns : goal.left_of_or-returns
left_of_or-returns g height c =
    let by = c.label-on.ensures.by in let behind = c.requires.behind in record {
      guards = Guards-bound_no c.label-on.ensures.empty (omega arith) (λ at_no at_yes words h. h) c.in_ok-sides.ensures.writes c.bind.ensures.bound;
    }
