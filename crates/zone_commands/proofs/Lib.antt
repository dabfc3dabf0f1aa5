pub mod Answering
pub mod Numbers
pub mod Asking
pub mod WalkedWords
pub mod CommandWords
pub mod OneText
pub mod OneSoak
pub mod Spelled
