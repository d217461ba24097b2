-- Lemmas on how sections are laid out.
pub mod Steps
