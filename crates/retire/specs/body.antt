pub mod Filling
pub mod Sink
pub mod Allocation
pub mod Alike
pub mod Diff
