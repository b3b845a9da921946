pub mod Refusal
pub mod Plan
pub mod Roads
pub mod Carts
pub mod Paths
pub mod Tables
pub mod Examples
pub mod Open
