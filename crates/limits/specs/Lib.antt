pub mod Limits
pub mod Counts
pub mod Orders
pub mod Row
pub mod OfPaths
