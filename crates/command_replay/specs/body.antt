-- Models of the code, which the contracts of private functions cite. No public clause cites them.
pub mod Failing
pub mod Summarizing
pub mod Opened
