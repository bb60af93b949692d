pub use Rattle.amqp_link_types.specs.Frames
pub use Rattle.amqp_link_types.specs.Size
pub mod Fitting
pub mod Room
pub mod Split
