pub mod Jobs
pub mod Line
pub mod Made
pub mod Placing
pub mod Request
pub mod Running
pub mod Sections
