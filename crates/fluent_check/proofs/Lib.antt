mod SameKinds
pub mod Lines
