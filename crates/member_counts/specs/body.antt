-- What the contracts of private functions cite.
pub mod Step
pub mod Runs
