mod WordLemmas
mod HeadLemmas
mod HeldLemmas
mod MoveLemmas
mod ReadLemmas
mod WriteLemmas
mod TurnLemmas
mod AnswerLemmas
mod CountLemmas
pub mod CutLemmas
