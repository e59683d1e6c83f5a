pub mod WordLemmas
pub mod LineLemmas
pub mod CountLemmas
pub mod SameLemmas
