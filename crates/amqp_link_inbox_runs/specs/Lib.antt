pub mod FromLedger
pub mod InboxAnswers
pub mod InboxRuns
pub mod InboxSteps
