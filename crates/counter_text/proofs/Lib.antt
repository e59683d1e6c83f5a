mod DropLemmas
mod PieceLemmas
mod RateLemmas
