pub mod PooledLemmas
