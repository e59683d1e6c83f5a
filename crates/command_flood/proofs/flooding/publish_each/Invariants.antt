use Rattle.command_flood.specs.Publications.{AreTried}
use Rattle.command_flood.proofs.flooding.publish_each.Given as goal

abbrev pub invariant-loop-successor : goal.invariant-loop-successor
invariant-loop-successor l =
    goal.iterator-loop-successor.can_next l.successor-iterator × goal.iterator-loop-successor.is_finite l.successor-iterator
    × AreTried l.yielded l.fn.operator l.operator
