pub mod Completing
pub mod ReceiverAttaches
pub mod ReceiverDeliveries
pub mod Receivers
