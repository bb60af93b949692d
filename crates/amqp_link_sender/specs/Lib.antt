pub mod SenderAttaches
pub mod SenderDisposes
pub mod Senders
pub mod Waits
