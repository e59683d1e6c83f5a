pub mod Format
pub mod CommandResult
pub mod FirstPath
pub mod Packing
pub mod Query
pub mod body
