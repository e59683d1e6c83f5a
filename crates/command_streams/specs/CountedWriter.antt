-- What a contract sees of a writer whose failures are counted.
use Rattle.std.specs.Prelude.{ℕ}
use Rattle.std.specs.Borrow.{GName}

-- the writer that is borrowed under this name, and how many of its writes and flushes failed
pub record CountedWriterValue (W : Type 0) : Type 0 where
  pub borrow : GName
  pub writer : W
  pub failures : ℕ
