pub mod InTurn
pub mod Stays
mod IdsRows
pub mod Falls
pub mod Fixpoint
pub mod Equations
pub mod Writing
pub mod States
pub mod Opening
pub mod Refusals
pub mod Weights
pub mod Measures
mod Rows
pub mod SameDecides
pub mod Reached
pub mod UnlimitedStays
pub mod Bounded
pub mod Fitting
pub mod ToldOnce
pub mod EqualEnvironments
pub mod UnlimitedOpen
pub mod OnPath
pub mod Looking
mod BoundRows
mod Unasked
