pub mod RepliesLemmas
pub mod CauseLemmas
mod SummaryLemmas
mod KindLemmas
mod LinesLemmas
