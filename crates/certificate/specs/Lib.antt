pub mod Columns
pub mod Bound
pub mod Verdicts
-- laws of them
pub mod Filling
pub mod Walked
