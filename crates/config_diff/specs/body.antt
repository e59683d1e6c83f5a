pub mod Changes
pub mod Appended
