-- laws of what is read and printed
pub mod Enough
