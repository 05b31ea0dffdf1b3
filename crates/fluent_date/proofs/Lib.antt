pub mod Digits
pub mod Equal
pub mod Fractions
pub mod Order
pub mod ReadBack
