pub mod EndLemmas
pub mod EndStatuses
pub mod FaultLemmas
pub mod FormatLemmas
pub mod InPlaceLemmas
pub mod InputLemmas
pub mod LintLemmas
pub mod ProjectLemmas
pub mod Refusals
pub mod RunLemmas
pub mod TellLemmas
mod DatedRows
mod NumeralRows
pub mod DatesSet
