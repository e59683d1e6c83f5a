mod MeaningLemmas
mod ResultLemmas
