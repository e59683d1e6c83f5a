mod ShowingLemmas
mod LoadingLemmas
mod MeasuringLemmas
mod TellingLemmas
mod OpeningLemmas
mod ReportLemmas
pub mod PrintingLemmas
mod ScreenLemmas
mod BegunLemmas
pub mod CauseLemmas
