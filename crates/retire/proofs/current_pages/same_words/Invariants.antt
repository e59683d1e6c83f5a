use Rattle.std.proofs.Common.{◌≡◌, ◌+◌, ◌-◌, ◌<◌, ◌≤◌, slice_index, ℕ}
use Rattle.retire.proofs.current_pages.same_words.Given as goal

abbrev pub invariant-loop-at : goal.invariant-loop-at
invariant-loop-at l = (l.at ≤ l.last + 3) × ((i : ℕ) → i < l.at → slice_index l.words i ≡ slice_index l.other i)

abbrev pub decreases-loop-at : goal.decreases-loop-at
decreases-loop-at l = l.last - l.at
