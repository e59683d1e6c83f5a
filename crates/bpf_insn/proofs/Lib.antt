pub mod WordLemmas
pub mod StandardFacts
