-- Models of the code: what the contracts of private functions cite. No public clause depends on them.
pub mod FrontTurns
pub mod Jobs
pub mod Turns
