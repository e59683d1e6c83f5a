use Rattle.std.proofs.Common.{◌*◌, ◌+◌}
use Rattle.std.specs.Prelude.{max}
use Rattle.filter_tree.specs.declared.expression.Expr.{size-Expr}
use Rattle.filter_compile.proofs.expression.+expression.Given as goal

abbrev pub decreases-expression : goal.decreases-expression
decreases-expression g l = 6 * size-Expr _ l.expr.now + 3

abbrev pub decreases-compound : goal.decreases-compound
decreases-compound g l = 6 * size-Expr _ l.expr.now + 2

abbrev pub decreases-behind_guard : goal.decreases-behind_guard
decreases-behind_guard g l = 6 * size-Expr _ l.expr.now + 1

abbrev pub decreases-parts : goal.decreases-parts
decreases-parts g l = 6 * size-Expr _ l.expr.now

abbrev pub decreases-conjunction : goal.decreases-conjunction
decreases-conjunction g l = 6 * max (size-Expr _ l.left.now) (size-Expr _ l.right.now) + 5

abbrev pub decreases-disjunction : goal.decreases-disjunction
decreases-disjunction g l = 6 * max (size-Expr _ l.left.now) (size-Expr _ l.right.now) + 5

abbrev pub decreases-left_of_and : goal.decreases-left_of_and
decreases-left_of_and g l = 6 * size-Expr _ l.left.now + 4

abbrev pub decreases-left_of_or : goal.decreases-left_of_or
decreases-left_of_or g l = 6 * size-Expr _ l.left.now + 4
