pub mod Checks
-- laws of it
pub mod Steps
pub mod Promise
