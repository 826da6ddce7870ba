pub mod SameWords
pub mod OneOutcome
pub mod OneReply
pub mod Turning
pub mod OneReplay
