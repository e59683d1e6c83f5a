pub mod Explanation
pub mod Meaning
pub mod Printed
pub mod Shown
pub mod body
