pub mod Code
pub mod Publish
pub mod Sweep
pub mod body
