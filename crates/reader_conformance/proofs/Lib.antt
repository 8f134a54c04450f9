pub mod AllAgree
pub mod CursorInList
pub mod Replays
pub mod Scores
pub mod Steps
pub mod WorkedCases
