use Rattle.std.proofs.Common.{ap, ◌∙◌}
use Rattle.std.specs.Prelude.{is_some}
use Rattle.amqp_link_core.proofs.MergeLemmas.{tag_kept}
use Rattle.amqp_link_core.proofs.incomplete_transfer.IncompleteTransfer.add.Goals as goal

pub invariant_of-self : goal.invariant_of-self
invariant_of-self c = (
  ap is_some (tag_kept (record { opens = c.args.opens; transfer = c.args.transfer }) _ _ c.merge.ensures) ∙ c.self.invariant.0,
  c.in-Ok.ensures.carry,
)
