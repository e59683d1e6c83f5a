-- Read sections of one worker, one after the other.
use Rattle.std.specs.Prelude.{◌≡◌, ◌+◌, ℕ}
use Rattle.read_section.specs.Reads.{FewFetches}
use Rattle.read_section.specs.Section.{IsWholeSection}
use Rattle.read_section.specs.Worker.{WorkerValue, left, steps}

-- a whole section, in which word 0 was read
pub record IsSection (before after : WorkerValue) : Type 0 where
  pub inside : WorkerValue
  pub last : WorkerValue
  pub word : ℕ
  pub whole : IsWholeSection before inside after
  pub read : FewFetches 0 word inside last
  pub then_left : after ≡ steps left last

-- this many of them, and nothing else
pub data AreSections : ℕ → WorkerValue → WorkerValue → Type 0 where
  none : (worker : WorkerValue) → AreSections 0 worker worker
  one_more : (count : ℕ) (before mid after : WorkerValue) → AreSections count before mid → IsSection mid after → AreSections (count + 1) before after
