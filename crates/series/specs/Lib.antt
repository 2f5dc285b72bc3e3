pub mod Series
-- what a loan for writing leaves
pub mod Lends
pub mod Front
-- laws of the places
pub mod Places
