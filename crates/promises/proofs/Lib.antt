-- the headline
pub mod Promises
-- its proof, from the ground up: one place over the ticks, what is carried into a window, the bound; then the scheduler's
-- own states, its responses up to a tick and after it, and the texts
pub mod Place
pub mod Carried
pub mod Bound
pub mod Horizon
pub mod Sound
pub mod Settled
pub mod Demand3
pub mod FromText
-- and that what it asks for is met
pub mod Witness
