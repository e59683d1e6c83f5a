-- Models of the code: what the contracts of private functions cite. No public clause depends on them.
pub mod Parser
pub mod Postfix
pub mod Place
pub mod Stack
pub mod Scan
pub mod Number
