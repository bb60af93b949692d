pub mod EntriesOf
pub mod FateLemmas
pub mod DeliveryLemmas
pub mod ExchangeLemmas
pub mod WorldLemmas
pub mod CallLemmas
pub mod AttachSteps
pub mod RunLemmas
pub mod SentLemmas
pub mod CalledLemmas
pub mod OutLemmas
pub mod ResolveLemmas
mod Worked
