pub mod Code
pub mod Path
pub mod Accepted
pub mod Fault
pub mod Program
pub mod body
pub use Rattle.bpf_insn.specs.Table
pub use Rattle.bpf_insn.specs.Word
