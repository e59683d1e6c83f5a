pub mod FindLemmas
pub mod MalformedLemmas
pub mod OverLemmas
pub mod VerdictLemmas
