pub mod Growth
pub mod Metrics
pub mod Screen
pub mod Sockets
