mod FailingLemmas
mod FloodLemmas
mod PublicationLemmas
mod StandardFacts
mod TrafficLemmas
