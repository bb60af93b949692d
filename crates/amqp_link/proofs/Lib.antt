pub mod UnsettledMaps
