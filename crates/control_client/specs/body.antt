pub mod Asking
pub mod Unread
pub mod Collecting
pub mod Feeds
