pub mod Replies
pub mod Plans
pub mod Desks
pub mod Sessions
pub mod Texts
pub mod Replays
