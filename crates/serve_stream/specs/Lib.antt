pub mod Stream
pub mod Answers
pub mod Request
pub mod Conversation
pub mod Standing
pub mod body
pub use Rattle.ipv4_fields.specs.Cut
pub use Rattle.control_line.specs.Block
