pub mod Residues
-- Proofs of the laws, which implementations cite: ResidueLaws, Modular.
pub mod ResidueLaws
pub mod Modular
