pub mod TrieLemmas
