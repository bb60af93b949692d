use Rattle.std.proofs.Common.{rules}
use Rattle.amqp_link_core.proofs.MergeLemmas.{Merged-append}
use Rattle.amqp_link_core.proofs.incomplete_transfer.merging.merge.Goals.{then-opens, else-opens}
use Rattle.amqp_link_core.proofs.incomplete_transfer.merging.merge.Goals as goal

pub returns : goal.returns
returns c = λ came has. Merged-append came c.args.opens c.args.transfer c.args.held.now _ has (record {
  opened = λ e. elim c.if-opens.branch [ then-opens w ↦ search rules | else-opens w ↦ cc ];
  followed = λ e. elim c.if-opens.branch [ then-opens w ↦ cc | else-opens w ↦ search rules ];
  format = elim c.if-opens.branch [ then-opens w ↦ search rules | else-opens w ↦ search rules ];
  settled = elim c.if-opens.branch [ then-opens w ↦ search rules | else-opens w ↦ search rules ];
  state = elim c.if-opens.branch [ then-opens w ↦ search rules | else-opens w ↦ search rules ];
  others = elim c.if-opens.branch [ then-opens w ↦ search rules | else-opens w ↦ search rules ];
})
