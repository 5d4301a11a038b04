-- Lemmas for the proofs.
mod Consumed
