pub mod Searches
pub mod Found
