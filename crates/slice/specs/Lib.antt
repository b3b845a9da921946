pub mod PlanSlice
pub mod Holding
pub mod Texts
pub mod Entry
pub mod HeldPlan
