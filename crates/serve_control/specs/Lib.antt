pub mod Ignored
pub mod Answer
pub mod Log
pub mod Members
pub mod Desk
