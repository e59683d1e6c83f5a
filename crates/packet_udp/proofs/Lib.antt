pub mod SumLemmas
pub mod PacketLemmas
pub mod PayloadLemmas
pub mod StandardFacts
