pub mod Datagram
pub mod Starts
pub mod TallyRule
