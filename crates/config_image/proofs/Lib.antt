mod StandardFacts
mod PooledFacts
pub mod LengthLemmas
pub mod WordLemmas
pub mod ImageLemmas
pub mod PartLemmas
pub mod RecordLemmas
pub mod LookupLemmas
pub mod SearchLemmas
pub mod WritingLemmas
pub mod RowLemmas
pub mod PageTableLemmas
pub mod PartsLemmas
pub mod PooledLemmas
pub mod EntryLemmas
pub mod ProgramLemmas
pub mod PooledRowLemmas
pub mod FormLemmas
pub mod OnePartLemmas
pub mod ReadsLemmas
