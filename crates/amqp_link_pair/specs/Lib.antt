pub mod Aborting
pub mod Queues
pub mod QueueViews
pub mod Keeping
pub mod HandingOut
pub mod Endpoints
pub mod PairViews
