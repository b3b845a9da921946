pub mod Walks
pub mod Passes
pub mod Solutions
pub mod Parents
pub mod Certificate
