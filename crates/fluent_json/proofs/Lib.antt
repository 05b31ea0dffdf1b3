mod NoTree
mod OneTree
mod Selected
pub use Rattle.fluent_json_write.proofs.NoFloats
