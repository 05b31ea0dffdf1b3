pub mod Calls
pub mod CallValues
pub mod Functions
pub mod CallsView
pub mod Gathering
pub mod GatheringView
pub mod Outcomes
