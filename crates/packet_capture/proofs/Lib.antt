pub mod StandardFacts
pub mod CaptureLemmas
pub mod ContentLemmas
pub mod LineLemmas
pub mod PacketLemmas
pub mod BeginningLemmas
