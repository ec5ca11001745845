mod DigitsLemmas
pub mod TakeLemmas
pub mod MadeLemmas
pub mod SumLemmas
pub mod RunLemmas
pub mod ManyLemmas
pub mod LiveLemmas
pub mod FaultLemmas
pub mod BestLemmas
pub mod BestRunLemmas
