pub mod CutLemmas
pub mod ItemLemmas
pub mod FieldLemmas
pub mod DigitLemmas
pub mod ReadLemmas
pub mod MeaningLemmas
pub mod PrintLemmas
mod StandardFacts
