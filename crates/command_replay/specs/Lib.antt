pub mod Replaying
pub mod Counted
pub mod Lines
pub mod body
