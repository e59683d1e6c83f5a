pub mod FailureLemmas
pub mod OutputLemmas
