pub mod StandardFacts
pub mod RunLemmas
pub mod SafeLemmas
pub mod ArrayLemmas
