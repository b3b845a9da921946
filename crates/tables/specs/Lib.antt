pub mod Arrays
pub mod Index
pub mod Reading
pub mod Lending
