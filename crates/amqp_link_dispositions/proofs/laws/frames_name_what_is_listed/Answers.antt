use Rattle.amqp_link_dispositions.proofs.DispositionFrameLemmas.{names_listed}
use Rattle.amqp_link_dispositions.proofs.laws.frames_name_what_is_listed.Goals as goal

pub returns : goal.returns
returns c = names_listed
