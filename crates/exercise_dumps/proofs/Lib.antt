-- Lemmas on two dumps.
mod Sums
mod Seats
mod Refusals
mod Generated
