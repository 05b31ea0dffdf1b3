-- What an answer unfolds to compute a reading on a literal, from the crate below.
pub use Rattle.fluent_grammar.proofs.Computing
