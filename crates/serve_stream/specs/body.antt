pub mod Held
pub mod Replies
pub mod Waiting
pub mod Asked
