use Rattle.std.proofs.Common.{◌≡◌, ◌++◌, ◌+◌, false, take, sym, ◌∙◌, subst}
use Rattle.std.specs.List.{concat}
use Rattle.amqp_link_payloads.specs.Sections.{is_too_long}
use Rattle.amqp_link_payloads.proofs.PositionLemmas.{concat_next}
use Rattle.amqp_link_core.specs.Carries.{HasPushed}
use Rattle.amqp_link_core.proofs.CountLemmas.{some_is_none, is_not_long, first_not_long}
use Rattle.amqp_link_core.proofs.incomplete_transfer.pieces.carry_of.Goals as goal

pub unreachable-requires : goal.unreachable-requires
unreachable-requires c =
    let pieces = c.args.pieces.now in
    let i = c.loop-piece.piece-index in
    let front = concat (take i pieces) in
    let short : is_too_long (front ++ c.piece-item.result) ≡ false
    = subst (λ F. is_too_long F ≡ false) (concat_next pieces i c.piece-item.result c.loop-piece-test.true c.piece-item.is)
    (first_not_long pieces (i + 1) c.requires) in
    some_is_none (sym (c.in_default.ensures.refused front c.loop-piece.invariant) ∙ is_not_long (front ++ c.piece-item.result) short)

pub loop-piece-preserved : goal.loop-piece-preserved
loop-piece-preserved c =
    subst (HasPushed c.push.new.self)
    (sym (concat_next c.args.pieces.now c.loop-piece.piece-index c.piece-item.result c.loop-piece-test.true c.piece-item.is))
    (c.in-Ok.ensures.pushed (concat (take c.loop-piece.piece-index c.args.pieces.now)) c.loop-piece.invariant)
