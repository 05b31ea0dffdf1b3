pub mod PartFindings
pub mod RulesView
pub mod Pushes
pub mod Kinds
pub mod Words
pub mod SourceFindings
