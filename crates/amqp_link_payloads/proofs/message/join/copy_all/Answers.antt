use Rattle.std.proofs.Common.{◌∙◌, ap, sym}
use Rattle.std.specs.List.{flat_map}
use Rattle.std.proofs.lemmas.List.{take_all}
use Rattle.std.proofs.lemmas.List.Concat.{concat_is}
use Rattle.amqp_link_payloads.proofs.message.join.copy_all.Goals as goal

pub returns-clause-joined : goal.returns-clause-joined
returns-clause-joined c =
    let all = take_all c.loop-piece.piece-index c.args.pieces.now c.loop-piece-test.false in
    c.in_ok-from_vec.ensures.ok ∙ c.loop-piece.invariant ∙ ap (λ t. flat_map (λ p. p) t) all ∙ sym (concat_is c.args.pieces.now)
