pub mod Connections
pub mod Client
pub mod Places
