pub mod FirstThere
pub mod LentBundle
pub mod Scopes
pub mod Within
pub mod LoneTexts
