mod FailureLemmas
mod ServeLemmas
