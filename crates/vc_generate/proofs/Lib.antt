pub mod WordSteps
pub mod CommandSteps
pub mod ProperGenerated
pub mod Pairing
pub mod Four
