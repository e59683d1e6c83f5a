pub mod Reading
pub mod Heads
pub mod Making
pub mod Blocks
pub mod Pairs
pub mod Rules
