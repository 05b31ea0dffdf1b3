pub mod Cut
pub mod Joined
pub mod CutLaws
pub mod Shapes
pub mod Normal
pub mod WellFormed
pub mod Tidied
pub mod NormalLaws
