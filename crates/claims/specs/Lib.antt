pub mod History
pub mod Latest
pub mod Note
pub mod Placement
pub mod OldCopies
pub mod WitnessLatest
pub mod WitnessNote
