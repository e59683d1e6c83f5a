pub mod Checksum
pub mod Packet
pub mod Payload
pub mod body
