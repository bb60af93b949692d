use Rattle.std.proofs.Common.{◌∙◌, refl, arith}
use Rattle.amqp_link_payloads.proofs.SeekLemmas.{sought_passed, sought_after}
use Rattle.amqp_link_payloads.proofs.position.places.SeekStarts.after.Goals as goal

pub returns : goal.returns
returns c = λ aim F seeks xs same.
    sought_passed aim _ F xs 0 (λ fits. sought_after aim c.args.self _ F c.args.length (seeks fits) refl
    (c.saturating_add.ensures ∙ omega (arith, (seeks fits).length_is, fits)) refl refl refl) same
