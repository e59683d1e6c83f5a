mod MeaningLemmas
mod PrintedLemmas
mod TableLemmas
