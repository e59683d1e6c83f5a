pub mod JobLemmas
pub mod DeviceLemmas
pub mod StepLemmas
pub mod BatchLemmas
pub mod DatagramLemmas
pub mod MemoryLemmas
pub mod SumLemmas
pub mod TallyLemmas
pub mod WorkerLemmas
pub mod CountedLemmas
mod WholeLemmas
