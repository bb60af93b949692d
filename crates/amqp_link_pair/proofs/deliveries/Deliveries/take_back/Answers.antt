use Rattle.std.proofs.Common.{◌∙◌, ap}
use Rattle.amqp_link_types.specs.Entries.{without_entry}
use Rattle.amqp_link_types.proofs.MapLemmas.{put-taken_back}
use Rattle.amqp_link_pair.specs.Keeping.{just_sent}
use Rattle.amqp_link_pair.proofs.deliveries.Deliveries.take_back.Goals as goal

pub returns : goal.returns
returns c = λ old absent is. c.remove.ensures ∙ (ap (λ m. without_entry m c.args.tag.now) is ∙ put-taken_back old c.args.tag.now just_sent absent)
