pub mod Words
pub mod PutText
pub mod Counted
