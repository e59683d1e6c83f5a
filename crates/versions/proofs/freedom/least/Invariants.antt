use Rattle.std.proofs.Common.{◌≡◌, ℕ, ◌<◌, ◌≤◌, length, get_or}
use Rattle.versions.proofs.freedom.least.Given as goal

abbrev pub invariant-loop-number : goal.invariant-loop-number
invariant-loop-number l = ((k : ℕ) → k < l.number-index → l.found ≤ get_or l.numbers k 0) × ((w : ℕ) × (w < length l.numbers) × (get_or l.numbers w 0 ≡ l.found))
