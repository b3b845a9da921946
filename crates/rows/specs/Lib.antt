pub mod Row
pub mod Starred
pub mod Further
pub mod Slices
