pub mod InCode
pub mod Beside
pub mod Pieces
pub mod Wanted
