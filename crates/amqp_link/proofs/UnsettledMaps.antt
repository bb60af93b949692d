-- What a caller with an invariant over an unsettled map needs: the entry that was put and another one, what a
-- removal leaves, and that the tags stay distinct.
pub use Rattle.amqp_link_types.proofs.EntriesLemmas.{IsMap-none}
pub use Rattle.amqp_link_types.proofs.MapLemmas.{entry_at-put, entry_at-put_other, entry_at-removed, IsMap-removed}
pub use Rattle.amqp_link_worlds.proofs.EntriesOf.{IsMap-put}
