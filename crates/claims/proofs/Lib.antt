pub mod History
pub mod NoOldCopy
pub mod Note
pub mod Placement
pub mod WitnessPlacement
