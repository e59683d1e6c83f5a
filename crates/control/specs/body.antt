pub mod Held
pub mod Ready
pub mod Switch
pub mod ScriptSoFar
pub mod Writing
pub mod Waiting
pub mod Packet
