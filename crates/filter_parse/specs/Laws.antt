-- Laws of the grammar.
use Rattle.std.specs.Prelude.{◌≡◌, ◌≤◌, List, ℕ}
use Rattle.filter_tree.specs.Measure.{depth_of}
use Rattle.filter_tree.specs.Text.{printed}
use Rattle.filter_tree.specs.Tree.{IsInRange, Tree}
use Rattle.filter_parse.specs.declared.TheConstants.{MAX_DEPTH}
use Rattle.filter_parse.specs.declared.fault.ParseFault.{ParseFault}
use Rattle.filter_parse.specs.declared.token.Token.{Token}
use Rattle.filter_parse.specs.Fault.{HasFault, HasTree}
use Rattle.filter_parse.specs.Grammar.{Spells}

-- a text has at most one tree
abbrev pub HasOneTree : Type 0
HasOneTree = (text : List ℕ) (one other : Tree) → HasTree text one → HasTree text other → one ≡ other

-- no sequence of tokens spells two trees, whether the trees are within the limits or not
abbrev pub IsUnambiguous : Type 0
IsUnambiguous = (tokens : List Token) (one other : Tree) → Spells tokens one → Spells tokens other → one ≡ other

-- a text with a tree has no fault
abbrev pub ExcludesFaults : Type 0
ExcludesFaults = (text : List ℕ) (tree : Tree) (fault : ParseFault) → HasTree text tree → ¬ HasFault text fault

-- a text has at most one fault
abbrev pub HasOneFault : Type 0
HasOneFault = (text : List ℕ) (one other : ParseFault) → HasFault text one → HasFault text other → one ≡ other

-- the printed text of a tree has that tree
abbrev pub ReadsBack : Type 0
ReadsBack = (tree : Tree) → IsInRange tree → depth_of tree ≤ MAX_DEPTH → HasTree (printed tree) tree
