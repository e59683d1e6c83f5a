-- The three outcomes of a test on a packet: yes, no, and fails, if a load passes the packet's end or a divisor is 0.
use Rattle.std.specs.Prelude.{Bool, None, Option, Some, false, true, ℕ}
use Rattle.filter_tree.specs.declared.truth.Truth.{Truth}
use Rattle.filter_tree.specs.declared.truth.Truth.TheVariants.{Fails, No, Yes}

-- the outcome of a test that can't fail
abbrev pub answer : Bool → Truth
answer true = Yes
answer false = No

-- the outcome of a test of a number, which fails if there is none
abbrev pub tested : (ℕ → Bool) → Option ℕ → Truth
tested holds None = Fails
tested holds (Some n) = answer (holds n)

-- `and`: only after yes the second is asked
infixl 30 ◌and_then◌
abbrev pub ◌and_then◌ : Truth → Truth → Truth
Yes and_then second = second
No and_then second = No
Fails and_then second = Fails

-- `or`: only after no the second is asked
infixl 30 ◌or_else◌
abbrev pub ◌or_else◌ : Truth → Truth → Truth
Yes or_else second = Yes
No or_else second = second
Fails or_else second = Fails

-- `not`
abbrev pub opposite : Truth → Truth
opposite Yes = No
opposite No = Yes
opposite Fails = Fails

-- a test that is made only if there is cause
abbrev pub where_so : Bool → Truth → Truth
where_so true test = test
where_so false test = Yes
