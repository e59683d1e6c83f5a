pub mod Words
pub mod Lead
pub mod Rules
pub mod Untouched
pub mod body
