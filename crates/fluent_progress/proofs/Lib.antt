pub mod Entered
pub mod Counting
mod NestingRows
pub mod Telling
pub mod TextGiven
