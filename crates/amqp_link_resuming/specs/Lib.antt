pub mod ResumingSteps
pub mod SendingAgain
