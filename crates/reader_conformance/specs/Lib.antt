pub mod Operations
pub mod ReaderList
pub mod ScoreOfSomeList
