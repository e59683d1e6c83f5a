pub mod FieldLemmas
mod LineLemmas
pub mod LearnLemmas
pub mod StopLemmas
mod WordLemmas
mod ReplyLemmas
mod ResultLemmas
mod AskedLemmas
pub mod FoundLemmas
pub mod ShownLemmas
pub mod AddedLemmas
mod FileLemmas
mod TextLemmas
mod LengthLemmas
mod LeadLemmas
mod MeaningLemmas
mod AttemptLemmas
mod DrainingLemmas
