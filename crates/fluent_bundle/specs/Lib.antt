pub mod Contents
pub mod BundleView
pub mod Adding
pub mod ScopeView
pub mod ScopeSteps
pub mod Bounds
pub mod Localization
