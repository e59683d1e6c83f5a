mod JoinLemmas
mod PackLemmas
mod QueryLemmas
pub mod StopLemmas
mod WriteLemmas
pub mod FirstLemmas
mod TableLemmas
