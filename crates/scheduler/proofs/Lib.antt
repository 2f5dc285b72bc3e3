pub mod Tests
pub mod Reached
pub mod Releasing
pub mod Working
pub mod Ticking
