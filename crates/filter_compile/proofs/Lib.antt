pub mod PacketLemmas
pub mod ValueLemmas
pub mod ArithmeticLemmas
mod CellLemmas
pub mod TestLemmas
pub mod HeaderLemmas
pub mod WeightLemmas
pub mod GuardLemmas
pub mod NonIpv4Lemmas
pub mod ProgramLemmas
pub mod StepLemmas
pub mod RelationLemmas
mod StandardFacts
