pub mod HeadLemmas
pub mod RequestLemmas
pub mod EndLemmas
mod OneTextLemmas
mod MeetLemmas
mod JudgeLemmas
mod ReadyLemmas
mod SwitchLemmas
pub mod WaitingLemmas
mod WritingLemmas
pub mod HeldLemmas
pub mod ScriptLemmas
pub mod TakeLemmas
mod ReplayLemmas
