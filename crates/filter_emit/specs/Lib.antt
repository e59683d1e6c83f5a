pub mod Fixups
pub mod Pieces
pub mod Runs
pub mod Checks
pub mod Guards
pub mod body
