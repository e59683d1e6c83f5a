pub mod ControlAddress
pub mod Shares
pub mod Arguments
pub mod CommandLine
pub mod Ending
pub mod Input
pub mod body
pub mod Words
