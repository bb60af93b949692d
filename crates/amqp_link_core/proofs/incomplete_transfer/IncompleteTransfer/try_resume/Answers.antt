use Rattle.std.proofs.Common.{ap, ◌∙◌}
use Rattle.std.specs.List.{concat}
use Rattle.amqp_link_core.specs.Merging.{opening}
use Rattle.amqp_link_core.proofs.MergeLemmas.{tag_kept, id_given, format_added, silent_resumed}
use Rattle.amqp_link_payloads.proofs.PositionLemmas.{concat_push}
use Rattle.amqp_link_core.proofs.incomplete_transfer.IncompleteTransfer.try_resume.Goals as goal

pub returns-in-Ok-clause-bytes : goal.returns-in-Ok-clause-bytes
returns-in-Ok-clause-bytes c = ap concat c.in-Ok.ensures.pieces ∙ concat_push c.args.self.now.pieces c.args.payload

pub returns-in-Ok-clause-tag : goal.returns-in-Ok-clause-tag
returns-in-Ok-clause-tag c = tag_kept (opening c.args.transfer) _ _ c.in-Ok.ensures.merged

pub returns-in-Ok-clause-id : goal.returns-in-Ok-clause-id
returns-in-Ok-clause-id c = id_given c.args.transfer _ _ c.in-Ok.ensures.merged

pub returns-in-Ok-clause-format : goal.returns-in-Ok-clause-format
returns-in-Ok-clause-format c = format_added (opening c.args.transfer) _ _ c.in-Ok.ensures.merged

pub returns-in-Ok-clause-silent : goal.returns-in-Ok-clause-silent
returns-in-Ok-clause-silent c = silent_resumed c.args.transfer _ _ c.in-Ok.ensures.merged
