pub mod Kind
pub mod Malformed
pub mod Sound
pub mod Verdict
pub use Rattle.bpf_verify.specs.Program
pub use Rattle.config_image.specs.Image
pub use Rattle.config_image.specs.Lookup
pub use Rattle.ipv4_fields.specs.Dispatchable
