pub mod Brokers
pub mod Clients
pub mod Peers
pub mod Relays
pub mod Shorts
pub mod Walks
pub mod Windows
