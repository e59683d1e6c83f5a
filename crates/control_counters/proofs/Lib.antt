pub mod WatchLemmas
mod TextLemmas
mod FrameLemmas
mod ReadingLemmas
