pub mod KeyLemmas
pub mod LogLemmas
pub mod SettleLemmas
pub mod StepLemmas
pub mod SumLemmas
pub mod TableLemmas
