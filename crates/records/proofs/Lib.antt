pub mod RuleTests
pub mod LetterNumbers
pub mod SectionSearch
pub mod JudgedSteps
pub mod Walks
pub mod Promises
