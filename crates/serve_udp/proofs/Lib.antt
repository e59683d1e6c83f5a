mod CountedLemmas
pub mod FrontTurnLemmas
mod JobsLemmas
mod ServingLemmas
mod TurnLemmas
