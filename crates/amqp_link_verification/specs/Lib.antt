pub use Rattle.amqp_link_types.specs.Refusals
pub mod Filters
pub mod Termini
