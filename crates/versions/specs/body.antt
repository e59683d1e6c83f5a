pub mod Mirror
pub mod Names
pub mod WorldKept
