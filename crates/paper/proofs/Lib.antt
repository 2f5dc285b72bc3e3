-- P1 to P11
pub mod Cases
-- laws of the definitions, for the proofs above
pub mod Laws
