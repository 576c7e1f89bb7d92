pub mod Divisors
pub mod Integers
-- Proofs of the laws, which implementations cite: IntegerLaws, Euclid, IntegerRing.
pub mod IntegerLaws
pub mod Euclid
pub mod IntegerRing
