mod ResultLemmas
pub mod WireLemmas
mod LinesLemmas
mod PrintingLemmas
mod CarriedLemmas
mod ExchangeLemmas
mod TellLemmas
mod RequestLemmas
mod StandardFacts
