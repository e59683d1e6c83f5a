mod CommandLineLemmas
mod MetLemmas
mod NamedLemmas
pub mod EndingLemmas
mod StandardFacts
mod BuilderLemmas
mod ValueLemmas
pub mod AcceptedLemmas
mod ShareLemmas
mod SpreadFacts
