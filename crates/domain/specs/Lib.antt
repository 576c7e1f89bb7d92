pub mod Answers
pub mod Faults
pub mod Fields
pub mod Lines
pub mod Model
pub mod Numbers
pub mod Remainders
pub mod Ring
-- Proofs of the laws, which implementations cite: FieldDomains, Rings.
pub mod FieldDomains
pub mod Rings
