pub mod Starts
pub mod Replays
pub mod Reported
pub mod Along
pub mod ByLog
pub mod Fitting
pub mod ByPaths
