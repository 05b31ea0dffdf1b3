pub mod Requests
pub mod Answers
pub mod Exchange
pub mod Serving
pub mod Runs
pub mod Outcomes
pub mod SameAnswers
mod Cuts
pub mod Lines
pub mod Streams
pub mod Values
