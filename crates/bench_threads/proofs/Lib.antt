pub mod JobLemmas
pub mod MadeLemmas
pub mod RequestLemmas
