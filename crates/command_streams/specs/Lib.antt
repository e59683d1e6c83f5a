pub mod Failures
pub mod CountedWriter
pub mod Endings
pub use Rattle.dispatch.specs.Device
pub use Rattle.control.specs.Streams
pub use Rattle.command_line.specs.Ending
pub use Rattle.command_line.specs.Input
