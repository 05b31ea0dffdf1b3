pub mod Digits
pub mod Placed
pub mod Map
pub mod Decided
