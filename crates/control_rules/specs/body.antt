pub mod Left
pub mod Replies
pub mod Start
pub mod Lines
pub mod Added
pub mod Progress
pub mod Attempt
pub mod Draining
