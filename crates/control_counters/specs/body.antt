pub mod Framed
pub mod Replies
