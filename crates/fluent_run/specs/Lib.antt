pub mod ResourceIds
pub mod Listing
pub mod Listed
pub mod RunView
pub mod DeskView
pub mod ReplyView
pub mod Dated
