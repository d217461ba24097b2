-- Lemmas on the loops of this crate.
pub mod Pieces
