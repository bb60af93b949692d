use Rattle.std.proofs.Common.{◌≡◌, ◌<◌, ◌∙◌, length, sym, arith, rules}
use Rattle.std.proofs.lemmas.List.{nil_from_length}
use Rattle.amqp_link_payloads.proofs.PieceLemmas.{found-empty, found-first}
use Rattle.amqp_link_payloads.proofs.message.join.only_full.Goals as goal

pub loop-piece-preserved-then-is_empty : goal.loop-piece-preserved-then-is_empty
loop-piece-preserved-then-is_empty c =
    let none : length c.piece-item.result ≡ 0 = search rules in
    found-empty _ _ _ c.piece-item.result c.loop-piece-test.true c.piece-item.is
    (nil_from_length c.piece-item.result none) c.loop-piece.invariant

pub loop-piece-preserved : goal.loop-piece-preserved
loop-piece-preserved c =
    let some : 0 < length c.piece-item.result = grind arith in
    found-first c.loop-piece.only _ _ c.piece-item.result c.loop-piece-test.true c.piece-item.is
    some (sym c.is_some.ensures ∙ c.if-is_some.false) c.loop-piece.invariant
