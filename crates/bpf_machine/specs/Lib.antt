pub mod Packet
pub mod Meaning
pub mod body
pub use Rattle.bpf_insn.specs.Word
pub use Rattle.bpf_verify.specs.Path
pub use Rattle.bpf_verify.specs.Accepted
