pub mod Beginning
pub mod body
pub use Rattle.command_streams.specs.Failures
pub use Rattle.command_line.specs.Ending
pub use Rattle.dispatch.specs.Totals
