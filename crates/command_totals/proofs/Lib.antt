pub mod BeginningLemmas
mod HalfLemmas
