pub mod State
pub mod Tick
-- the two steps of a tick
pub mod Steps
-- laws of them
pub mod Laws
pub mod Kept
