pub mod Slice
pub mod Laid
pub mod Holds
pub mod Indexing
pub mod Entries
pub mod LaidPlan
pub mod HeldPlan
