pub mod Counts
pub mod Key
pub mod Log
pub mod Table
pub mod body
pub use Rattle.member_group.specs.Group
