use Rattle.std.proofs.Common.{ap, length, arith}
use Rattle.std.proofs.lemmas.List.{drop_all}
use Rattle.std.specs.List.{concat}
use Rattle.amqp_link_payloads.proofs.payload.joined_len.Goals as goal

pub returns : goal.returns
returns c =
    let whole = c.loop-piece.invariant.whole in
    let none = ap (λ t. length (concat t)) (drop_all c.loop-piece.piece-index c.args.pieces.now c.loop-piece-test.false) in
    (omega (arith, none, whole, c.loop-piece.invariant.fits), omega (arith, none, whole))
