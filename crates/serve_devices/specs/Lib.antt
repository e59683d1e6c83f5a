pub mod Channel
pub mod Devices
pub mod Ingress
pub mod Queues
pub mod body
