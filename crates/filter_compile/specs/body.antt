-- Models of the code: what the contracts of private functions cite. No public clause depends on them.
pub mod Piece
pub mod Header
pub mod Sides
pub mod Arithmetic
pub mod Program
pub mod Weight
pub mod NonIpv4
pub mod Front
