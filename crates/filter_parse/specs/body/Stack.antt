-- What a contract sees of a `Stack`.
use Rattle.std.specs.Prelude.{◌∷◌, List, None, Option, Some, [], reverse}
use Rattle.filter_parse.specs.declared.stack.Stack.{Stack}

-- the entries, the top first
abbrev pub from_top : {T A : Type 0} → Stack T A → List T
from_top stack = reverse stack.entries.items

-- the top
abbrev pub top_of : {T : Type 0} → List T → Option T
top_of [] = None
top_of (top ∷ others) = Some top

-- the entries below the top
abbrev pub below_top : {T : Type 0} → List T → List T
below_top [] = []
below_top (top ∷ others) = others
