pub mod Counts
pub mod Frame
pub mod Watching
pub mod Reading
pub mod Failing
pub mod body
