-- Models of the code, which the contracts of private functions cite. No public clause cites them.
pub mod Reading
pub mod Asked
pub mod Changes
pub mod Front
pub mod Screens
pub mod Drained
