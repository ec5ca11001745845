pub mod AddressLemmas
pub mod FindingLemmas
pub mod FoldedOrder
pub mod ObjectsLemmas
