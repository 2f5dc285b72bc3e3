-- what the pieces promise, from the ticks to the whole run, and their laws
pub mod Finishing
pub mod Order
pub mod Naming
pub mod Seating
pub mod Going
pub mod Ending
pub mod Showing
pub mod Running
pub mod Whole
pub mod Responses
