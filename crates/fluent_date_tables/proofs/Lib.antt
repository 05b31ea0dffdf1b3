pub mod Steps
pub mod PartSteps
pub mod SkippedParts
pub mod Families
pub mod Letters
