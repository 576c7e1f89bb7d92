pub mod Bytes
-- Proofs of the laws, which implementations cite: ByteLaws, ByteProducts.
pub mod ByteLaws
pub mod ByteProducts
