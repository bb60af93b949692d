pub use Rattle.amqp_link_core.specs.Resuming
pub use Rattle.amqp_link_types.specs.Deliveries
pub use Rattle.amqp_link_types.specs.Entries
pub mod Exchanges
pub mod Plans
