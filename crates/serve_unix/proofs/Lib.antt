mod ClientLemmas
mod PlaceLemmas
