pub mod BrokerLemmas
pub mod ConsumerLemmas
pub mod PeerLemmas
pub mod RelayLemmas
pub mod PlaceLemmas
pub mod SumLemmas
pub mod MapLemmas
