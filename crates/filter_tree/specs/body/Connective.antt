-- What stands between the two sides of `and` and `or`.
use Rattle.std.specs.Prelude.{List, codes, ℕ}
use Rattle.filter_tree.specs.Tree.{Tree, conjunction}

-- asked of these two alone
abbrev pub printed_connective : Tree → List ℕ
printed_connective (conjunction left right) = codes " and "
printed_connective _ = codes " or "
