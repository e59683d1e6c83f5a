mod WindowLemmas
mod ShortLemmas
mod FormLemmas
mod ReadingLemmas
mod RequestLemmas
mod PacketLemmas
pub mod JudgeLemmas
mod LaneLemmas
mod ProgramLemmas
pub mod ChangeLemmas
mod BlockLemmas
mod HeadLemmas
pub mod ReadBackLemmas
pub mod LineLemmas
mod MessageLemmas
mod OneLineLemmas
mod OneMessageLemmas
mod OneAnswerLemmas
mod DigitLemmas
pub mod RulesLemmas
mod ColumnLemmas
mod StandardFacts
