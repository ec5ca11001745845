pub use Rattle.rand_pcg.specs.Lcg
pub use Rattle.rand_pcg.specs.Pcg
pub mod Words
pub mod Generated
pub mod Next
pub mod Pairs
pub mod ToCome
pub mod Four
