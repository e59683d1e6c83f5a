-- A place for a part of a tree, before it is filled: it holds a tree without parts.
use Rattle.filter_tree.specs.declared.arithmetic.Arith.{Arith}
use Rattle.filter_tree.specs.declared.arithmetic.Arith.TheVariants.{Length}
use Rattle.filter_tree.specs.declared.expression.Expr.{Expr}
use Rattle.filter_tree.specs.declared.expression.Expr.TheVariants.{Primitive}

abbrev pub IsBlankArithmetic : {A : Type 0} → Arith A → Type 0
IsBlankArithmetic Length = Unit {0}
IsBlankArithmetic _ = ⊥

abbrev pub IsBlank : {A : Type 0} → Expr A → Type 0
IsBlank (Primitive p) = Unit {0}
IsBlank _ = ⊥
