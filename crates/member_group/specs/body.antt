pub mod Counted
pub mod InPlace
