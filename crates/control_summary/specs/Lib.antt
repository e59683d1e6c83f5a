pub mod Verdict
pub mod Kind
pub mod Summary
pub mod body
