-- what the headline speaks of
pub mod Promises
-- what its proof speaks of, from the ground up
pub mod Place
pub mod Carried
pub mod Bound
pub mod Horizon
pub mod Sound
pub mod Settled
pub mod Demand3
