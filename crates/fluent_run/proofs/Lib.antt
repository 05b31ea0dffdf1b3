pub mod ResourceIds
pub mod Answered
pub mod Environments
pub mod Lines
pub mod Replies
pub mod Valued
mod Listed
mod OneText
mod AskedLines
pub mod DatesShown
