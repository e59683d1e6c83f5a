mod PacketsLemmas
mod FailureLemmas
