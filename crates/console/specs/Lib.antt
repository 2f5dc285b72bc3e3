pub mod Answered
pub mod Loss
pub mod Counted
